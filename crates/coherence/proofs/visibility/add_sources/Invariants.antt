use Rattle.std.proofs.Common.{◌≡◌, ◌+◌, length}
use Rattle.coherence.specs.Visibility.{Gained}
use Rattle.coherence.proofs.VisibilitySources.{RfBelow}
use Rattle.coherence.proofs.visibility.add_sources.Given as goal

abbrev pub invariant-loop-added : goal.invariant-loop-added
invariant-loop-added l = (l.table.side ≡ l.initial.table.side) × Gained (length l.events + 8) (RfBelow l.events l.added) l.initial.table.cells l.table.cells
