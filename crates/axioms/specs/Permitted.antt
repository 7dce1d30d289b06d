-- Which graphs a profile permits. es are the added events, and m is what the profile means.
--
--   Good m es L        L is a push order, it is lawful, and coherence has no cycle under it
--   Permitted m es     there is no source cycle, and some list is good
use Rattle.std.specs.Prelude.{ℕ, List}
use Rattle.graph.specs.declared.event.Event.{Event}
use Rattle.profiles.specs.Meaning.{Meaning}
use Rattle.axioms.specs.Relations.{PushOrder, Lawful, SourceCycle, CoherenceCycle}

pub record Good (m : Meaning) (es : List Event) (L : List ℕ) : Type 0 where
  pub push_order : PushOrder m es L
  pub lawful : Lawful es L
  pub clear : CoherenceCycle m es L → ⊥

abbrev pub Permitted : Meaning → List Event → Type 0
Permitted m es = (SourceCycle es → ⊥) × ((L : List ℕ) × Good m es L)
