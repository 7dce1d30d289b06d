use Rattle.std.proofs.Common.{ap, arith}
use Rattle.std.proofs.lemmas.Bool.Decides.{Decides-eqb, Decides-like}
use Rattle.measures.specs.Steps.{same_steps}
use Rattle.measures.proofs.steps.StepCountMeasure.same.Goals as goal

pub returns : goal.returns
returns c = Decides-like _ (λ e. same_steps _ _ (omega arith)) (λ e. let s = ap (λ w. w.count) e in omega arith) (Decides-eqb c.min.result c.min-2.result)
