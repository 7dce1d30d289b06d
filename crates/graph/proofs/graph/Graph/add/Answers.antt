-- An addition does as the history does.
use Rattle.std.proofs.Common.{set, Err, ap, ◌∙◌}
use Rattle.std.proofs.lemmas.Result.{err_from_is_err_and}
use Rattle.graph.specs.declared.call.Call.TheVariants.{Add}
use Rattle.graph.specs.Events.{fresh}
use Rattle.graph.specs.Memory.{room_of}
use Rattle.graph.proofs.Checking.{passed_ok}
use Rattle.graph.proofs.Fitting.{still_told}
use Rattle.graph.proofs.Standing.{add_refused, add_done}
use Rattle.graph.proofs.graph.Graph.add.Goals as goal

pub returns-in_err-kind-clause-told : goal.returns-in_err-kind-clause-told
returns-in_err-kind-clause-told c =
    let p = err_from_is_err_and c.from_residual.result c.from_residual.ensures.1 in
    λ hs h. add_refused _ _ _ _ hs h _ _ _ _ c.in_err-kind.field-0.0 c.in_err-kind.ensures.value c.from_residual.result (p.1 ∙ ap Err p.2)

pub invariant_of-self-clause-told : goal.invariant_of-self-clause-told
invariant_of-self-clause-told c =
    let es = c.args.self.now.events.now in
    let ok = c.in_ok-kind.ensures in
    still_told es _ _ _ _ _ _ _ (room_of es) (Add c.args.thread c.args.code c.args.location c.args.value)
    (λ hs h. (add_done _ _ _ _ hs h _ _ _ _ c.in_ok-kind.kind ok.value ok.fits.0 ok.fits.1 c.fresh.result c.fresh.ensures).1)
    c.args.self.now.told

pub returns-clause-told : goal.returns-clause-told
returns-clause-told c =
    let ok = c.in_ok-kind.ensures in
    λ hs h. add_done _ _ _ _ hs h _ _ _ _ c.in_ok-kind.kind ok.value ok.fits.0 ok.fits.1 c.fresh.result c.fresh.ensures

pub returns-clause-slice : goal.returns-clause-slice
returns-clause-slice c =
    ap (set c.args.self.now.events.now c.args.self.now.count)
    (c.fresh.ensures ∙ ap (λ k. fresh c.args.thread k c.args.location c.args.value) (passed_ok _ _ c.in_ok-kind.kind c.in_ok-kind.ensures.value).1)
