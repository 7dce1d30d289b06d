-- What a profile means, as one value.
--
--   Meaning   two sets of pairs of events for each list of added events, each given by its test:
--   kept      a is kept before b
--   pushed    a is pushed to b
--   Told r t P   the answer r is the meaning's t, and it is yes exactly if P holds
use Rattle.std.specs.Prelude.{◌≡◌, ℕ, Bool, List, Decides}
use Rattle.graph.specs.declared.event.Event.{Event}

pub record Meaning : Type 0 where
  pub kept : List Event → ℕ → ℕ → Bool
  pub pushed : List Event → ℕ → ℕ → Bool

pub record Told (r t : Bool) (P : Type 0) : Type 0 where
  pub value : r ≡ t
  pub holds : Decides r P
