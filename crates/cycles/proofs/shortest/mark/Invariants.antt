use Rattle.std.proofs.Common.{◌≡◌, ℕ, ◌<◌, cond, get_or}
use Rattle.measures.specs.Reach.{yes}
use Rattle.cycles.proofs.shortest.mark.Given as goal

abbrev pub invariant-loop-i : goal.invariant-loop-i
invariant-loop-i l = (k : ℕ) → k < l.i → get_or l.counts k 0 ≡ cond (yes (get_or l.steps k 0)) 1 255
