-- A shortest cycle of the table of the steps is a shortest source cycle.
use Rattle.axioms.proofs.Sources.{source_cycle_tells}
use Rattle.axioms.proofs.source_cycle.source_cycle.Goals as goal

pub returns : goal.returns
returns c =
    source_cycle_tells c.args.events.now c.in_ok-steps.steps c.in_ok-steps.ensures c.side.result c.side.ensures.value
    c.cells.result.now c.cells.ensures.value c.cells.ensures.size
    c.args.cycle.now c.shortest_cycle.new.cycle c.shortest_cycle.result c.shortest_cycle.ensures
