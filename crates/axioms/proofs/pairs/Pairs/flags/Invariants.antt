-- The flags below an event are right.
use Rattle.std.proofs.Common.{ℕ, ◌<◌, false, List, get_or, Decides}
use Rattle.graph.specs.declared.event.Event.{Event}
use Rattle.profiles.specs.Meaning.{Meaning}
use Rattle.axioms.specs.Asked.{Asked}
use Rattle.axioms.specs.Relations.{Pushes}
use Rattle.axioms.proofs.pairs.Pairs.flags.Given as goal

abbrev pub invariant-loop-event : goal.invariant-loop-event
invariant-loop-event l =
    (m : Meaning) (es : List Event) → Asked m es l.self → (a : ℕ) → a < l.event → Decides (get_or l.flag-items a false) (Pushes m es a)
