-- The marked events below an event are collected.
use Rattle.axioms.proofs.Collecting.{CollectedTo}
use Rattle.axioms.proofs.push_order.collect.Given as goal

abbrev pub invariant-loop-event : goal.invariant-loop-event
invariant-loop-event l = CollectedTo l.flags l.event l.initial.list l.list l.count
