-- The flags of the events passed so far are down.
use Rattle.axioms.proofs.Ticking.{TickedTo}
use Rattle.axioms.proofs.push_order.lists_exactly.Given as goal

abbrev pub invariant-loop-event : goal.invariant-loop-event
invariant-loop-event l = TickedTo l.initial.flags l.list l.event-index l.flags
