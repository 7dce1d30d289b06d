use Rattle.std.proofs.Common.{inl, inr}
use Rattle.std.proofs.lemmas.Bool.Decides.{not_from_Decides}
use Rattle.coherence.proofs.sight.Sight.shows_by_value.Goals as goal

pub returns-else-is_visible : goal.returns-else-is_visible
returns-else-is_visible c m L told =
    let blind = not_from_Decides c.is_visible.result (c.is_visible.ensures m L told) c.if-is_visible.false in (
      λ e. (c.reads_from.ensures.0 c.if-reads_from.true, inr (c.is_read_before.ensures.0 e)),
      λ h. elim h.1 [ inl seen ↦ absurd (blind seen) | inr before ↦ c.is_read_before.ensures.1 before ],
    )
