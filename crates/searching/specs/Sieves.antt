-- Which orders of pushing events a sieve rejects. es are the added events, kept and pushed are yes/no tables of pairs, E lists
-- the pushing events, and an order q has places of E for its items.
--
--   tabled n kept pushed      the profile that the two tables of side n tell
--   Cyclic es kept pushed L   there is a coherence cycle under L, for that profile
--   Fails                     an order of the places of E, at most eight, under which there is a coherence cycle
--   OpenPush n xs E placed c  the event at an open place of E, one that is not placed, pushes to c by the table xs
--   Merging                   the open events push as one, which goes by the number 0, and the others as they do
--   CyclicSoFar               there is a coherence cycle under L where the open events push as one
--   NoItem E placed           an item that is no place of E
use Rattle.std.specs.Prelude.{◌≡◌, ℕ, ◌+◌, ◌<◌, ◌≤◌, Bool, true, ◌&&◌, ◌⊎◌, List, length, nat_lt, slice_index}
use Rattle.measures.specs.Reach.{yes}
use Rattle.measures.specs.Walks.{at, Yes}
use Rattle.graph.specs.declared.event.Event.{Event}
use Rattle.profiles.specs.Meaning.{Meaning}
use Rattle.axioms.specs.Relations.{CoherenceCycle}
use Rattle.axioms.specs.Tables.{Drawn}
use Rattle.coherence.specs.Visibility.{Fits}
use Rattle.orders.specs.Orders.{Among}
use Rattle.searching.specs.Listing.{picked}

abbrev pub tells : ℕ → List ℕ → ℕ → ℕ → Bool
tells n xs a b = nat_lt a n && (nat_lt b n && yes (at n xs a b))

abbrev pub tabled : ℕ → List ℕ → List ℕ → Meaning
tabled n kept pushed = record { kept = λ _. tells n kept; pushed = λ _. tells n pushed }

pub record Cyclic (es : List Event) (kept pushed L : List ℕ) : Type 0 where
  pub kept_fits : Fits es kept
  pub pushed_fits : Fits es pushed
  pub cycle : CoherenceCycle (tabled (length es + 8) kept pushed) es L

pub record Fails (es : List Event) (kept pushed E q : List ℕ) : Type 0 where
  pub whole : length q ≡ length E
  pub few : length q ≤ 8
  pub cyclic : Cyclic es kept pushed (picked E q)

pub record OpenPush (n : ℕ) (xs E placed : List ℕ) (c : ℕ) : Type 0 where
  pub item : ℕ
  pub within : item < length E
  pub open_item : Among placed item → ⊥
  pub pushes : Yes n xs (slice_index E item) c

abbrev pub Merging : ℕ → List ℕ → List ℕ → List ℕ → ℕ → ℕ → Type 0
Merging n xs E placed a c = ((0 < a) × (yes (at n xs a c) ≡ true)) ⊎ ((a ≡ 0) × OpenPush n xs E placed c)

pub record CyclicSoFar (es : List Event) (kept pushed E placed L : List ℕ) : Type 0 where
  pub merged : List ℕ
  pub pushed_fits : Fits es pushed
  pub drawn : Drawn (Merging (length es + 8) pushed E placed) (length es + 8) merged
  pub cyclic : Cyclic es kept merged L

pub record NoItem (E placed : List ℕ) : Type 0 where
  pub place : ℕ
  pub within : place < length placed
  pub past : length E ≤ slice_index placed place
