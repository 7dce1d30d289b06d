use Rattle.std.proofs.Common.{arith}
use Rattle.measures.proofs.Rows.{row_more}
use Rattle.measures.proofs.settling.relax.Goals as goal

pub loop-j-preserved : goal.loop-j-preserved
loop-j-preserved g c =
    let m = g.M.Measure in
    row_more m.means m.laws (m.means c.args.there) c.args.row.now c.args.onward.now c.loop-j.row c.loop-j.j
    c.index-row-j.result c.index-onward-j.result c.choose.result
    (omega arith) (omega arith) c.index-row-j.is c.index-onward-j.is
    (cc (c.choose.ensures, c.join.ensures, c.index-row-j.is))
    c.loop-j.invariant
