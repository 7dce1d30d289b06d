-- Which events push, and lists of them.
--
--   Marked F a              the flag of a is set in F
--   Lists F L               L lists the marked events, each once
--   Increasing L            each event of L is above those before it
--   Pushing m es L          L lists the pushing events by rising number
--   CountPushing m es k     k events push: some list of them has k events, and so has every push order
--   Front P old new k       a list with P, of k events, was written to the front of a buffer, and the rest is as it was
use Rattle.std.specs.Prelude.{◌≡◌, ℕ, ◌<◌, Bool, true, false, List, ◌++◌, length, drop, slice_index, slice_index_or}
use Rattle.graph.specs.declared.event.Event.{Event}
use Rattle.profiles.specs.Meaning.{Meaning}
use Rattle.axioms.specs.Orders.{Listed, Once}
use Rattle.axioms.specs.Relations.{PushOrder}

abbrev pub Marked : List Bool → ℕ → Type 0
Marked F a = slice_index_or F a false ≡ true

pub record Lists (F : List Bool) (L : List ℕ) : Type 0 where
  pub each : (a : ℕ) → Listed L a → Marked F a
  pub all : (a : ℕ) → Marked F a → Listed L a
  pub once : Once L

abbrev pub Increasing : List ℕ → Type 0
Increasing L = (i j : ℕ) → i < j → j < length L → slice_index L i < slice_index L j

pub record Pushing (m : Meaning) (es : List Event) (L : List ℕ) : Type 0 where
  pub order : PushOrder m es L
  pub increasing : Increasing L

pub record CountPushing (m : Meaning) (es : List Event) (k : ℕ) : Type 0 where
  pub events : List ℕ
  pub pushing : Pushing m es events
  pub count : length events ≡ k
  pub every : (L : List ℕ) → PushOrder m es L → length L ≡ k

pub record Front (P : List ℕ → Type 0) (old new : List ℕ) (k : ℕ) : Type 0 where
  pub written : List ℕ
  pub holds : P written
  pub count : length written ≡ k
  pub front : new ≡ written ++ drop k old
