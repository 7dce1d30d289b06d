-- A loop of the table is a source cycle.
use Rattle.axioms.proofs.Sources.{cycle_told}
use Rattle.axioms.proofs.source_reach.SourceReach.has_cycle.Goals as goal

pub returns : goal.returns
returns c es reached = cycle_told es c.args.self.now reached c.has_loop.result c.has_loop.ensures
