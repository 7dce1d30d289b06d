use Rattle.std.proofs.Common.{◌≡◌, List}
use Rattle.graph.specs.History.{Step}
use Rattle.graph.specs.Holds.{Holds}
use Rattle.marker.proofs.Performing.{Sofar}
use Rattle.marker.proofs.entries.perform_all.Given as goal

abbrev pub invariant-loop-entry : goal.invariant-loop-entry
invariant-loop-entry l =
    (l.graph.events.ghost_name ≡ l.initial.graph.events.ghost_name)
    × ((hs : List Step) → Holds l.initial.graph hs → Sofar l.initial.graph l.graph l.initial.entry-items l.entry-items l.entry-index hs)
