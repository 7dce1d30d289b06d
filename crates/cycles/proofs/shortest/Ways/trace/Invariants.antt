use Rattle.measures.specs.Walks.{Yes}
use Rattle.cycles.proofs.Trailing.{Trail}
use Rattle.cycles.proofs.shortest.Ways.trace.Given as goal

abbrev pub invariant-loop-done : goal.invariant-loop-done
invariant-loop-done l = Trail (Yes l.self.side l.self.steps.now) l.self.side l.self.counts.now l.start l.count l.initial.between l.done l.at l.between
