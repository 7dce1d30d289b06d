use Rattle.std.proofs.Common.{sym, ◌∙◌}
use Rattle.std.proofs.lemmas.Bool.{both_ways}
use Rattle.coherence.proofs.Sighting.{cowr_seen}
use Rattle.coherence.proofs.sight.Sight.holds_by_cowr.Goals as goal
use Rattle.coherence.proofs.sight.Sight.holds_by_cowr.Goals.{then-are_rivals, else-are_rivals}

pub returns-then-reads_from : goal.returns-then-reads_from
returns-then-reads_from c m L told =
    let seen = c.is_visible.ensures m L told in
    elim c.if-are_rivals.branch [
      | then-are_rivals w ↦ (
        λ e. (c.are_rivals.ensures.0 w.if-are_rivals.true, (w.reads_from.ensures.0 (sym w.value-is ∙ c.if-reads_from.true), (seen.0 e).visible)),
        λ h. seen.1 (cowr_seen m c.args.self.now.events.now L c.args.p c.args.q c.args.reader h),
      )
      | else-are_rivals w ↦ absurd (both_ways c.if-are_rivals.value (w.value-is ∙ w.if-are_rivals.false) c.if-reads_from.true)
    ]
