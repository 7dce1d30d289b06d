use Rattle.measures.specs.Steps.{counted, no_steps, added, fewer}
use Rattle.measures.specs.Walks.{Fewest}
use Rattle.measures.proofs.Outcomes.{reads_as}
use Rattle.measures.proofs.Counting.{fewest_steps}
use Rattle.measures.proofs.steps.settle_steps.Goals as goal

pub returns : goal.returns
returns c =
    reads_as no_steps added fewer counted Fewest fewest_steps
    c.args.side c.args.cells.now c.settle.new.cells c.settle.result c.settle.auto.cells c.settle.ensures
