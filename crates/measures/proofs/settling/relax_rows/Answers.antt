use Rattle.std.proofs.Common.{◌≡◌, ℕ, ◌+◌, ◌*◌, ◌<◌, ◌≤◌, length, ap, sym, ◌∙◌, subst, mul-le-mul, arith, length-drop, drop, take, List, ◌-◌}
use Rattle.std.proofs.lemmas.List.{length-take-le}
use Rattle.measures.proofs.Rows.{RowsTo, row_cut_off, rows_written}
use Rattle.measures.proofs.settling.relax_rows.Goals as goal
use Rattle.measures.proofs.settling.relax_rows.Goals.{then-not-same, else-not-same}

-- Row a ends within the rows.
row_ends : (n size a count : ℕ) → size ≡ count * n → a < count → (a + 1) * n ≤ size
row_ends n size a count e h = let up : (a + 1) * n ≤ count * n = mul-le-mul (omega arith) (omega arith) in omega arith

pub loop-a-preserved : goal.loop-a-preserved
loop-a-preserved g c =
    let m = g.M.Measure in
    let n = length c.args.onward.now in
    let end = row_ends _ _ _ _ c.requires.count c.loop-a-test.true in
    let p = c.loop-a.a * n in
    let w = (c.loop-a.a + 1) * n - p in
    let wide : length (take w (drop p c.loop-a.rows)) ≡ w = length-take-le w (drop p c.loop-a.rows) (omega (arith, length-drop p c.loop-a.rows)) in
    let written = rows_written m.means m.laws n c.args.via c.loop-a.a c.requires.vertex c.args.rows.now c.args.onward.now c.loop-a.rows c.loop-a.invariant in
    let so_far = λ (xs : List _). RowsTo m.means m.laws n c.args.via c.args.rows.now c.args.onward.now xs (c.loop-a.a + 1) in
    elim c.if-not-same.branch [
      | then-not-same t ↦ subst so_far (sym t.rows-is) (written w _ t.relax.new.row c.index-row-via.result (omega arith) (omega arith) (omega arith) (omega arith) c.index-row-via.is t.relax.ensures)
      | else-not-same t ↦
          subst so_far (sym t.rows-is)
          (written w n _ c.index-row-via.result (omega arith) (omega arith) (omega arith) (omega arith) c.index-row-via.is
          (row_cut_off m.means m.laws n (m.means c.index-row-via.result) _ _ (c.same.ensures.0 t.if-not-same.false ∙ ap m.means c.NONE.ensures ∙ m.means_none)))
    ]
