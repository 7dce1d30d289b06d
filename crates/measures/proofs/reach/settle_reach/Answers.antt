use Rattle.std.proofs.Common.{false, ◌&&◌, ◌||◌}
use Rattle.measures.specs.Reach.{yes}
use Rattle.measures.specs.Walks.{Reachable}
use Rattle.measures.proofs.Outcomes.{reads_as}
use Rattle.measures.proofs.Reaching.{reachable}
use Rattle.measures.proofs.reach.settle_reach.Goals as goal

pub returns : goal.returns
returns c =
    reads_as false ◌&&◌ ◌||◌ yes Reachable reachable
    c.args.side c.args.cells.now c.settle.new.cells c.settle.result c.settle.auto.cells c.settle.ensures
