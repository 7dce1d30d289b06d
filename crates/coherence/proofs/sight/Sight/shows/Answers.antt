use Rattle.std.proofs.Common.{inl, inr}
use Rattle.std.proofs.lemmas.Bool.Decides.{not_from_Decides}
use Rattle.coherence.specs.Coherence.{Shows}
use Rattle.coherence.proofs.sight.Sight.shows.Goals as goal

pub returns-then-shows_by_value : goal.returns-then-shows_by_value
unfolding Shows
returns-then-shows_by_value c m L told =
    (λ e. inl ((c.shows_by_value.ensures m L told).0 e), λ _. c.if-shows_by_value.true)

pub returns-else-shows_by_value : goal.returns-else-shows_by_value
unfolding Shows
returns-else-shows_by_value c m L told =
    let order = c.shows_by_order.ensures m L told in
    let value = not_from_Decides c.shows_by_value.result (c.shows_by_value.ensures m L told) c.if-shows_by_value.false in
    (λ e. inr (order.0 e), λ s. elim s [ inl v ↦ absurd (value v) | inr o ↦ order.1 o ])
