use Rattle.std.proofs.Common.{◌≡◌, ℕ, ◌<◌, length, get_or}
use Rattle.judging.specs.Laying.{LaidAt, no_step}
use Rattle.judging.proofs.laying.lay.Given as goal

abbrev pub invariant-loop-place : goal.invariant-loop-place
invariant-loop-place g l =
    (length l.laid ≡ 64) × ((k : ℕ) → k < l.place → LaidAt (g.N.Namer.named l.namer) l.cycle (get_or l.laid k no_step) k)
