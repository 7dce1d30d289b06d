-- The count is that of the list, and of every push order.
use Rattle.std.proofs.Common.{arith}
use Rattle.axioms.proofs.Pushing.{front_counts}
use Rattle.axioms.proofs.pairs.Pairs.count_pushing.Goals as goal

pub returns : goal.returns
returns c = record {
  few = omega (arith, c.pushing.ensures.few);
  told = λ m es asked. front_counts m es _ _ c.pushing.result (c.pushing.ensures.told m es asked);
}
