use Rattle.std.proofs.Common.{arith}
use Rattle.axioms.proofs.Drawing.{drawn_more, place_within}
use Rattle.axioms.proofs.Entries.{decides_bit}
use Rattle.axioms.proofs.relation.draw_family.Goals as goal

pub loop-b-preserved : goal.loop-b-preserved
loop-b-preserved g c k =
    let a = c.loop-a.a in
    let b = c.loop-b.b in
    let n = c.args.side in
    let R = g.F.RelationFamily.related c.args.family.now k in
    let told = decides_bit {P = R a b} c.from.result c.holds.result c.from.ensures (c.holds.ensures k) in
    drawn_more R n a b c.from.result c.loop-b.cells c.loop-b-test.true
    (omega (arith, place_within a b n c.loop-a-test.true c.loop-b-test.true)) told (c.loop-b.invariant k)
