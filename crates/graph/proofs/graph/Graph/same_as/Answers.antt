-- `==` on the slices of events decides whether the graphs are equal.
use Rattle.std.proofs.Common.{sym, ◌∙◌}
use Rattle.std.proofs.lemmas.Bool.Decides.{Decides-like}
use Rattle.graph.proofs.Equality.{events_decide}
use Rattle.graph.proofs.graph.Graph.same_as.Goals as goal

pub returns : goal.returns
returns c =
    Decides-like c.eq.result
    (λ e. sym c.events.ensures.value ∙ e ∙ c.events-2.ensures.value)
    (λ e. c.events.ensures.value ∙ e ∙ sym c.events-2.ensures.value)
    (events_decide _ _ _ c.eq.ensures)
