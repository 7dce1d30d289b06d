-- The cells passed so far have their gains, and all others are as they were.
use Rattle.axioms.proofs.Joining.{JoinedTo}
use Rattle.axioms.proofs.table.join.Given as goal

abbrev pub invariant-loop-at : goal.invariant-loop-at
invariant-loop-at l = JoinedTo l.initial.cells l.gains l.at l.cells
