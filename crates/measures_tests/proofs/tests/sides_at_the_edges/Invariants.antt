use Rattle.std.proofs.Common.{◌≡◌, length}
use Rattle.measures_tests.proofs.tests.sides_at_the_edges.Given as goal

abbrev pub invariant-loop-v : goal.invariant-loop-v
invariant-loop-v g l = length l.ring ≡ 4096
