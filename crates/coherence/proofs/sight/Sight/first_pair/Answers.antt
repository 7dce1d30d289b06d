use Rattle.std.proofs.Common.{◌≡◌, ◌+◌, length, arith, rules}
use Rattle.std.proofs.lemmas.Bool.{both_ways}
use Rattle.coherence.proofs.FirstRule.{pair_more, pair_found, pair_none, second_none}
use Rattle.coherence.proofs.sight.Sight.first_pair.Goals as goal
use Rattle.coherence.proofs.sight.Sight.first_pair.Goals.{then-reads_from+in_default, else-reads_from}

pub loop-reader-preserved : goal.loop-reader-preserved
loop-reader-preserved c m L told =
    let es = c.args.self.now.events.now in
    let p = c.args.p in
    let q = c.args.q in
    let k = c.loop-reader.reader in
    elim c.if-reads_from.branch [
      | then-reads_from+in_default w ↦ pair_more m es L p q k (c.loop-reader.invariant m L told) (second_none m es L p q k (w.in_default.ensures m L told))
      | else-reads_from w ↦
          pair_more m es L p q k (c.loop-reader.invariant m L told) (λ v h. both_ways c.reads_from.result w.if-reads_from.false (c.reads_from.ensures.1 h.1.0))
    ]

pub returns-in-Some : goal.returns-in-Some
returns-in-Some c m L told =
    pair_found m c.args.self.now.events.now L c.args.p c.args.q c.loop-reader.reader (c.loop-reader.invariant m L told) c.in-Some.second (c.in-Some.ensures m L told)

pub returns : goal.returns
returns c m L told =
    let es = c.args.self.now.events.now in
    let side : c.in_ok-side.field-0 ≡ length es + 8 = search rules in
    pair_none m es L c.args.p c.args.q c.loop-reader.reader (c.loop-reader.invariant m L told) (omega arith)
