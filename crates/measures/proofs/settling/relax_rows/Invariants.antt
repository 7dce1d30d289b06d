use Rattle.measures.proofs.Rows.{RowsTo}
use Rattle.measures.proofs.settling.relax_rows.Given as goal

abbrev pub invariant-loop-a : goal.invariant-loop-a
invariant-loop-a g l =
    let m = g.M.Measure in
    RowsTo m.means m.laws l.side l.via l.initial.rows l.onward l.rows l.a
