use Rattle.std.proofs.Common.{◌/◌, ◌<◌, length, sym, ◌∙◌, arith}
use Rattle.sheets.proofs.Naming.{one_rule, no_rule}
use Rattle.sheets.proofs.Places.{stands_reads, reads_stands, chunk_found, chunk_byte}
use Rattle.sheets.proofs.layout.step_at.Goals as goal

pub returns-in_err-rule : goal.returns-in_err-rule
returns-in_err-rule c =
    let ss = c.args.steps.now in
    let k = c.args.place in
    let found = c.in_ok-from.ensures.lookup in
    let whole : k < length ss / 5 = omega (arith, found.3.0, c.as_chunks.ensures.front_len) in
    let same = chunk_found ss k (length ss / 5) c.in_ok-from.field-0.now _ found.1 c.as_chunks.ensures.front whole in
    rw c.from_residual-in_err-rule.ensures
    (λ s h. no_rule _ c.try_from.result c.try_from.ensures c.in_err-rule.ensures.value s.rule (sym (stands_reads ss k s h).by ∙ sym (chunk_byte ss k 2 _ same (omega arith))))

pub returns : goal.returns
returns c =
    let ss = c.args.steps.now in
    let k = c.args.place in
    let found = c.in_ok-from.ensures.lookup in
    let whole : k < length ss / 5 = omega (arith, found.3.0, c.as_chunks.ensures.front_len) in
    let same = chunk_found ss k (length ss / 5) c.in_ok-from.field-0.now _ found.1 c.as_chunks.ensures.front whole in
    reads_stands ss k _ (record {
      whole = omega arith;
      starts = sym (chunk_byte ss k 0 _ same (omega arith));
      leads = sym (chunk_byte ss k 1 _ same (omega arith));
      by = sym (one_rule _ c.try_from.result c.in_ok-rule.rule c.try_from.ensures c.in_ok-rule.ensures.value ∙ chunk_byte ss k 2 _ same (omega arith));
      reads = sym (chunk_byte ss k 3 _ same (omega arith));
      reads_second = sym (chunk_byte ss k 4 _ same (omega arith));
    })
