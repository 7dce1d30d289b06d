use Rattle.std.proofs.Common.{◌≡◌, length, get_or, refl, sym, ap, ◌∙◌, subst, add-mul, one-mul, arith, rules}
use Rattle.coherence.proofs.VisibilityPushes.{PushedFrom, back_of, row_read, pushed_none, pushed_joined}
use Rattle.coherence.proofs.visibility.add_push_steps.Goals as goal

pub loop-event-init : goal.loop-event-init
loop-event-init c =
    let L = c.args.list.now in
    let rest : c.into_iter-event-iterator.result.iter.rest.now ≡ L =
    ap (λ r. r.iter.rest.now) c.into_iter-event-iterator.ensures.into_iter_gives ∙ ap (λ i. i.rest.now) c.rev-event-items.ensures.source ∙ c.iter.ensures.rest in
    let long = ap length rest in
    record {
      side = refl;
      front = record { few = omega arith; same = λ k h. ap (λ l. get_or l k 0) rest };
      steps = pushed_none c.side-side.result c.args.pushed.now L _ c.args.table.now.cells c.side-side.ensures.small (omega arith);
    }

pub loop-event-preserved-then-row-side : goal.loop-event-preserved-then-row-side
loop-event-preserved-then-row-side c =
    let n = c.side-side.result in
    let L = c.args.list.now in
    let h = c.loop-event.invariant in
    let back = back_of L c.loop-event.event-iterator.iter.rest.now c.next.new.self.iter.rest.now c.in-Some.event.now c.in-Some.ensures.steps h.front in
    let e = c.in-Some.event.now in
    let long : length c.loop-event.later ≡ 64 = search rules in
    record {
      side = c.join_row.ensures.side ∙ h.side;
      front = back.front;
      steps = pushed_joined n c.args.pushed.now L _ back.within c.args.table.now.cells c.loop-event.later c.join.new.cells
          c.loop-event.table c.join_row.new.self (h.side ∙ sym c.side-side.ensures.value)
          (subst (λ k. PushedFrom n c.args.pushed.now L k c.args.table.now.cells c.loop-event.table.cells c.loop-event.later) back.long h.steps)
          e back.there c.if-row-side.true c.join_row.ensures _ (λ b q. row_read n c.args.pushed.now e _ b (omega (arith, add-mul e 1 n, one-mul n)) q) (omega (arith, c.side-side.ensures.small)) c.join.ensures;
    }
