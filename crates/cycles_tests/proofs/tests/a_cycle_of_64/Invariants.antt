use Rattle.std.proofs.Common.{◌≡◌, length}
use Rattle.cycles_tests.proofs.tests.a_cycle_of_64.Given as goal

abbrev pub invariant-loop-v : goal.invariant-loop-v
invariant-loop-v g l = length l.ring ≡ 4096
