use Rattle.std.proofs.Common.{sym, ◌∙◌}
use Rattle.std.proofs.lemmas.Bool.{both_ways}
use Rattle.coherence.proofs.sight.Sight.shows_by_order.Goals as goal
use Rattle.coherence.proofs.sight.Sight.shows_by_order.Goals.{then-precedes, else-precedes}

pub returns-then-reads_location : goal.returns-then-reads_location
returns-then-reads_location c m L told =
    let seen = c.is_visible.ensures m L told in
    elim c.if-precedes.branch [
      | then-precedes w ↦ (
        λ e. (c.precedes.ensures.0 w.if-precedes.true, (w.reads_location.ensures.0 (sym w.value-is ∙ c.if-reads_location.true), seen.0 e)),
        λ h. seen.1 h.1.1,
      )
      | else-precedes w ↦ absurd (both_ways c.if-precedes.value (w.value-is ∙ w.if-precedes.false) c.if-reads_location.true)
    ]
