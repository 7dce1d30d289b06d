-- The added events are those that some history tells, so they are proper.
use Rattle.std.proofs.Common.{take, subst}
use mathlib.Core.Logic.{∥∥₁_elim}
use Rattle.graph.specs.Proper.{Proper}
use Rattle.graph.proofs.Fitting.{proper_prop, now_proper}
use Rattle.graph.proofs.graph.Graph.events.Goals as goal

pub returns-clause-proper : goal.returns-clause-proper
returns-clause-proper c =
    let added = take c.args.self.now.count c.args.self.now.events.now in
    ∥∥₁_elim c.args.self.now.told (proper_prop added) (λ x. subst Proper x.1.0.events (now_proper x.0 x.1.1))
