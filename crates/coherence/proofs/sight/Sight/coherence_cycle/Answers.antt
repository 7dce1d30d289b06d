use Rattle.coherence.proofs.CoherenceCycles.{few_steps, shortest_answer}
use Rattle.coherence.proofs.sight.Sight.coherence_cycle.Goals as goal

pub returns-clause-answer : goal.returns-clause-answer
returns-clause-answer c =
    let steps = c.in_ok-steps.ensures in
    shortest_answer c.args.self.now c.in_ok-steps.steps steps.0 steps.1 c.side.result c.side.ensures.value c.cells.result.now c.cells.ensures.value c.cells.ensures.size
    c.args.cycle.now c.shortest_cycle.new.cycle c.shortest_cycle.result c.shortest_cycle.ensures

pub returns-clause-few : goal.returns-clause-few
returns-clause-few c = few_steps c.side.result c.cells.result.now c.args.cycle.now c.shortest_cycle.new.cycle c.shortest_cycle.result c.shortest_cycle.ensures
