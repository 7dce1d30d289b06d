use Rattle.std.proofs.Common.{◌≡◌, length}
use Rattle.coherence.proofs.VisibilityPushes.{FrontOf, PushedFrom}
use Rattle.coherence.proofs.visibility.add_push_steps.Given as goal

abbrev pub invariant-loop-event : goal.invariant-loop-event
invariant-loop-event l = record {
  side : l.table.side ≡ l.initial.table.side;
  front : FrontOf l.list l.event-iterator.iter.rest.now;
  steps : PushedFrom l.side l.pushed l.list (length l.event-iterator.iter.rest.now) l.initial.table.cells l.table.cells l.later;
}
