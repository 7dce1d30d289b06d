use Rattle.coherence.proofs.CoherenceCycles.{table_drawn}
use Rattle.coherence.proofs.sight.Sight.draw_coherence.Goals as goal

pub returns : goal.returns
returns c = table_drawn c.args.self.now c.in_ok-side_of.field-0 c.in_ok-side_of.ensures.0 c.args.cells.now c.draw_family.new.cells c.draw_family.result c.draw_family.ensures
