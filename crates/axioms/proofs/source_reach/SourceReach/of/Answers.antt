-- The settled table of the steps tells the ways.
use Rattle.axioms.proofs.Sources.{settled_reach}
use Rattle.axioms.proofs.source_reach.SourceReach.of.Goals as goal

pub returns : goal.returns
returns c = settled_reach c.args.events.now c.in_ok-table.table c.settle.new.self c.in_ok-table.ensures c.settle.ensures
