use Rattle.std.proofs.Common.{inl, inr, ◌∙◌, subst}
use Rattle.std.proofs.lemmas.Result.{err_from_is_err_and}
use Rattle.std.proofs.lemmas.Bool.Decides.{not_from_Decides}
use Rattle.graph.specs.Holds.{added_events}
use Rattle.marking.proofs.Blaming.{says_ordered, blamed_list, blamed_order}
use Rattle.marking.proofs.Parts.{layout_parts}
use Rattle.coherence.proofs.AskedVisibility.{asked_told}
use Rattle.marking.proofs.Truths.{OrderedBy}
use Rattle.marking.proofs.Answering.{answered}
use Rattle.axioms.specs.Relations.{PushOrder}
use Rattle.marking.proofs.truth.check_truth.Goals as goal
use Rattle.marking.proofs.truth.check_truth.Goals.{else-denies_source_cycle, then-denies_source_cycle+in_ok-check_order}

pub returns-then-not-is_push_order : goal.returns-then-not-is_push_order
returns-then-not-is_push_order g c bs t =
    let m = g.P.Profile.meaning c.args.profile.now in
    let es = added_events c.args.graph.now in
    let decided = c.is_push_order.ensures m c.events-events.result.now c.in-Ok.ensures in
    let none = subst (λ xs. PushOrder m xs c.args.layout.now.order.now → ⊥) c.events-events.ensures.value
    (not_from_Decides _ decided c.if-not-is_push_order.true) in
    blamed_list m es bs _ (layout_parts _ bs _ t) c.into.result none c.into.ensures

pub returns-in_err-check_order : goal.returns-in_err-check_order
returns-in_err-check_order g c bs t =
    let m = g.P.Profile.meaning c.args.profile.now in
    let es = added_events c.args.graph.now in
    let p = err_from_is_err_and c.from_residual.result c.from_residual.ensures.1 in
    let decided = c.is_push_order.ensures m c.events-events.result.now c.in-Ok.ensures in
    let pushing = subst (λ xs. PushOrder m xs c.args.layout.now.order.now) c.events-events.ensures.value (decided.0 c.if-not-is_push_order.false) in
    let parts = layout_parts _ bs _ t in
    rw (p.1, p.2)
    (blamed_order m es bs _ parts pushing _ (says_ordered bs _ parts c.if-denies_source_cycle.ensures) c.in_err-check_order.ensures)

pub returns : goal.returns
returns g c bs t =
    let m = g.P.Profile.meaning c.args.profile.now in
    let es = added_events c.args.graph.now in
    let xs = c.events-events.result.now in
    let L = c.args.layout.now.order.now in
    let asked = c.in-Ok.ensures in
    let pushing = subst (λ xs. PushOrder m xs L) c.events-events.ensures.value ((c.is_push_order.ensures m xs asked).0 c.if-not-is_push_order.false) in
    let told = asked_told m xs L c.in-Ok.pairs asked c.kept.result.now c.pushed.result.now (c.kept.ensures.told m xs asked) (c.pushed.ensures.told m xs asked)
    c.in-Ok-of.visibility c.in-Ok-of.ensures c.sight.result c.sight.ensures.events c.sight.ensures.leads in
    let same = c.sight.ensures.events ∙ c.in-Ok-of.ensures.events ∙ c.events-events.ensures.value in
    let ordered : OrderedBy c.args.layout.now.verdict es L = elim c.if-denies_source_cycle.branch [
      | else-denies_source_cycle w ↦ inl w.if-denies_source_cycle.ensures
      | then-denies_source_cycle+in_ok-check_order w ↦ inr w.in_ok-check_order.ensures
    ] in
    answered m es bs _ t pushing ordered c.check_steps.result
    ((rw same at (c.check_steps.ensures m L told)) t.sheet.steps t.steps)
