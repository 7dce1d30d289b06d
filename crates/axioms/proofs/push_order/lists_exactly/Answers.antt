-- A flag that is up at the end shows that the list is another.
use Rattle.std.proofs.Common.{arith}
use Rattle.axioms.proofs.Ticking.{lists_told}
use Rattle.axioms.proofs.push_order.lists_exactly.Goals as goal

pub returns : goal.returns
returns c = lists_told c.args.flags c.args.list.now c.loop-event.event-index c.loop-event.flags (omega arith) c.loop-event.invariant c.contains.result c.contains.ensures.cases
