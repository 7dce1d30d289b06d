use Rattle.measures.proofs.Rows.{RowTo}
use Rattle.measures.proofs.settling.relax.Given as goal

abbrev pub invariant-loop-j : goal.invariant-loop-j
invariant-loop-j g l =
    let m = g.M.Measure in
    RowTo m.means m.laws (m.means l.there) l.initial.row l.onward l.row l.j
