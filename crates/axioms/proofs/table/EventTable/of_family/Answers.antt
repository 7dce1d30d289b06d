-- The front of the cells tells the relation.
use Rattle.std.proofs.Common.{◌∙◌, refl}
use Rattle.axioms.proofs.Fronts.{longer_drawn}
use Rattle.axioms.proofs.table.EventTable.of_family.Goals as goal

pub returns : goal.returns
returns g c =
    let drawn = c.in_ok-draw_family.ensures in
    record {
      side = c.in_ok-side.ensures.0;
      drawn = λ k. longer_drawn (g.F.RelationFamily.related c.args.family.now k) c.in_ok-side.side c.draw_family.new.cells _ _ refl (c.draw_family.auto.cells ∙ drawn.0.1) (drawn.1 k);
    }
