-- A new graph stands by no step.
use Rattle.std.proofs.Common.{[]}
use Rattle.graph.proofs.Standing.{tells_new}
use Rattle.graph.proofs.graph.Graph.new.Goals as goal

pub invariant_of-result-clause-told : goal.invariant_of-result-clause-told
invariant_of-result-clause-told c = ∣ ([], (tells_new c.args.events.now, tt)) ∣₁

pub returns-clause-empty : goal.returns-clause-empty
returns-clause-empty c = tells_new c.args.events.now
