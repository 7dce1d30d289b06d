use Rattle.std.proofs.Common.{sym, ◌∙◌}
use Rattle.std.proofs.lemmas.Bool.{both_ways}
use Rattle.std.proofs.lemmas.Bool.Decides.{Decides-at}
use Rattle.axioms.proofs.Entries.{decides_none}
use Rattle.coherence.proofs.Sighting.{corw_seen, corw_reads}
use Rattle.coherence.proofs.sight.Sight.holds_by_corw.Goals as goal
use Rattle.coherence.proofs.sight.Sight.holds_by_corw.Goals.{then-are_rivals, else-are_rivals, then-reads_location, else-reads_location}

pub returns-else-is_visible : goal.returns-else-is_visible
returns-else-is_visible c m L told =
    let es = c.args.self.now.events.now in
    let p = c.args.p in
    let q = c.args.q in
    let r = c.args.reader in
    let fails = c.if-is_visible.false in
    Decides-at _ _ fails
    (decides_none (λ h. elim c.if-reads_location.branch [
      | then-reads_location w ↦ both_ways w.is_visible.result (sym w.value-is ∙ fails) ((w.is_visible.ensures m L told).1 (corw_seen m es L p q r h))
      | else-reads_location w ↦ elim c.if-are_rivals.branch [
        | then-are_rivals v ↦
            both_ways v.reads_location.result (sym v.value-is ∙ w.if-reads_location.false) (v.reads_location.ensures.1 (corw_reads m es L p q r h))
        | else-are_rivals v ↦ both_ways c.are_rivals.result v.if-are_rivals.false (c.are_rivals.ensures.1 h.0)
      ]
    ]))
