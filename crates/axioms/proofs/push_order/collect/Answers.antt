-- A marked event is collected, another is passed over.
use Rattle.std.proofs.Common.{arith}
use Rattle.axioms.proofs.Collecting.{collected_skip, collected_more, collected_all}
use Rattle.axioms.proofs.push_order.collect.Goals as goal
use Rattle.axioms.proofs.push_order.collect.Goals.{then-marked, else-marked}

pub loop-event-preserved : goal.loop-event-preserved
loop-event-preserved c =
    let F = c.args.flags.now in
    let a = c.loop-event.event in
    let old = c.args.list.now in
    elim c.if-marked.branch [
      | then-marked w ↦
          rw (w.list-is, w.count-is) (collected_more F a old c.loop-event.list c.loop-event.count c.loop-event.invariant (omega (arith, c.told-flags)) w.if-marked.true)
      | else-marked w ↦
          rw (w.list-is, w.count-is) (collected_skip F a old c.loop-event.list c.loop-event.count c.loop-event.invariant w.if-marked.false)
    ]

pub returns-clause-told : goal.returns-clause-told
returns-clause-told c =
    collected_all c.args.flags.now c.loop-event.event c.args.list.now c.loop-event.list c.loop-event.count
    (omega (arith, c.told-flags)) c.told-flags c.loop-event.invariant
