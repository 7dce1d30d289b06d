use Rattle.std.proofs.Common.{arith}
use Rattle.measures.specs.Steps.{same_steps}
use Rattle.measures.proofs.steps.StepCountMeasure.choose.Goals as goal

pub returns : goal.returns
returns c = same_steps _ _ (omega arith)
