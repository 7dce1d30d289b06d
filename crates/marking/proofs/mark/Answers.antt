use Rattle.std.proofs.Common.{◌+◌, length, Ok, Err, subst}
use mir.Facts.{Fits-lt-pow}
use Rattle.std.proofs.lemmas.Result.{err_from_is_err_and}
use Rattle.graph.specs.Holds.{added_events}
use Rattle.sheets.specs.Layouts.{Laid}
use Rattle.sheets.specs.WellLaid.{Told}
use Rattle.marking.proofs.Marked.{Marked, few_steps, by_layout, by_truth}
use Rattle.marking.proofs.mark.Goals as goal

pub returns-in_err-layout : goal.returns-in_err-layout
returns-in_err-layout g c =
    let p = err_from_is_err_and c.from_residual.result c.from_residual.ensures.1 in
    let m = g.P.Profile.meaning c.args.profile.now in
    let refused = c.in_err-layout.ensures in
    let clauses = subst (λ es. Marked m es c.args.sheet.now (Err c.in_err-layout.field-0.0)) c.events.ensures.value
    (by_layout m c.events.result.now c.args.sheet.now _ c.events.ensures.proper refused.outcome refused.told) in
    rw (p.1, p.2) (record { outcome = clauses.outcome; only = clauses.only; told = clauses.told })

pub check_truth-requires : goal.check_truth-requires
check_truth-requires g c = few_steps _ c.args.sheet.now _ c.in_ok-layout.ensures.told (λ i. Fits-lt-pow (c.type_inv.sheet i))

pub returns : goal.returns
returns g c =
    let m = g.P.Profile.meaning c.args.profile.now in
    let bs = c.args.sheet.now in
    let layout = c.in_ok-layout.layout in
    let outcome = subst (λ es. Laid (length es + 8) bs (Ok layout)) c.events.ensures.value c.in_ok-layout.ensures.outcome in
    let told = subst (λ es. Told (length es + 8) bs layout) c.events.ensures.value c.in_ok-layout.ensures.told in
    let clauses = by_truth m (added_events c.args.graph.now) bs _ outcome told c.check_truth.result (c.check_truth.ensures bs told) in
    record { outcome = clauses.outcome; only = clauses.only; told = clauses.told }
