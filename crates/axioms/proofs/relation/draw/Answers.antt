use Rattle.axioms.proofs.Drawing.{drawing_alone}
use Rattle.axioms.proofs.relation.draw.Goals as goal

pub returns : goal.returns
returns g c = drawing_alone (g.R.Relation.related c.args.relation.now) c.args.side c.args.cells.now c.draw_family.new.cells c.draw_family.result c.draw_family.ensures
