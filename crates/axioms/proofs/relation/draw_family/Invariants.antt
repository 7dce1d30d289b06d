use Rattle.std.proofs.Common.{◌+◌, ◌*◌}
use Rattle.axioms.proofs.Drawing.{DrawnTo}
use Rattle.axioms.proofs.relation.draw_family.Given as goal

abbrev pub invariant-loop-b : goal.invariant-loop-b
invariant-loop-b g l = (k : g.F.RelationFamily.known l.family) → DrawnTo (g.F.RelationFamily.related l.family k) l.side l.cells (l.a * l.side + l.b)

abbrev pub invariant-loop-a : goal.invariant-loop-a
invariant-loop-a g l = (k : g.F.RelationFamily.known l.family) → DrawnTo (g.F.RelationFamily.related l.family k) l.side l.cells (l.a * l.side)
