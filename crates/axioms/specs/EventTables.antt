-- The table that a relation between the events of a graph draws. It owns its cells.
--
--   cells_of t       the cells of t, row by row
--   Says t a b       t says yes in row a and column b, which are numbers of events
--   Tells K R es t   t has a row for each of the added events es and the initial writes, and tells each relation R k
--   Copied es xs t   t has such rows, and the cells of xs, which is square
--   Unfit es xs why  a refusal, since xs is no square with a row for each event, or the events are more than 56
--   CellSet t u a b v   u is t but for row a and column b, where it says v if these are numbers of events
--   Joined t u a gains   u is t but for row a, which has the yes of gains too
--   Settled t u      u says yes exactly where steps of t lead from the row to the column
use Rattle.std.specs.Prelude.{◌≡◌, ℕ, ◌+◌, ◌*◌, ◌<◌, Bool, ◌||◌, ◌⊎◌, ◌≢◌, List, length, take, slice_index}
use Rattle.measures.specs.declared.settling.Refusal.{Refusal}
use Rattle.measures.specs.declared.settling.Refusal.TheVariants.{NotSquare}
use Rattle.measures.specs.Outcome.{Square}
use Rattle.measures.specs.Reach.{yes}
use Rattle.measures.specs.Walks.{at, Yes, Reachable}
use Rattle.graph.specs.declared.event.Event.{Event}
use Rattle.axioms.specs.declared.table.EventTable.{EventTable}
use Rattle.axioms.specs.Tables.{Drawn}

abbrev pub cells_of : EventTable → List ℕ
cells_of t = take (t.side * t.side) t.cells

abbrev pub Says : EventTable → ℕ → ℕ → Type 0
Says t = Yes t.side t.cells

pub record Tells (K : Type 0) (R : K → ℕ → ℕ → Type 0) (es : List Event) (t : EventTable) : Type 0 where
  pub side : t.side ≡ length es + 8
  pub drawn : (k : K) → Drawn (R k) t.side t.cells

pub record Copied (es : List Event) (xs : List ℕ) (t : EventTable) : Type 0 where
  pub fits : Square (length es + 8) xs
  pub side : t.side ≡ length es + 8
  pub cells : cells_of t ≡ xs

pub record Unfit (es : List Event) (xs : List ℕ) (why : Refusal) : Type 0 where
  pub refusal : why ≡ NotSquare
  pub unfit : Square (length es + 8) xs → ⊥

pub record CellSet (t u : EventTable) (a b : ℕ) (v : Bool) : Type 0 where
  pub side : u.side ≡ t.side
  pub here : a < t.side → b < t.side → yes (at t.side u.cells a b) ≡ v
  pub elsewhere : (c d : ℕ) → c < t.side → d < t.side → (c ≢ a) ⊎ (d ≢ b) → at t.side u.cells c d ≡ at t.side t.cells c d

pub record Joined (t u : EventTable) (a : ℕ) (gains : List ℕ) : Type 0 where
  pub side : u.side ≡ t.side
  pub row : (b : ℕ) → a < t.side → b < t.side → yes (at t.side u.cells a b) ≡ (yes (at t.side t.cells a b) || yes (slice_index gains b))
  pub elsewhere : (c d : ℕ) → c < t.side → d < t.side → c ≢ a → at t.side u.cells c d ≡ at t.side t.cells c d

pub record Settled (t u : EventTable) : Type 0 where
  pub side : u.side ≡ t.side
  pub square : length (cells_of u) ≡ u.side * u.side
  pub reach : Reachable t.side t.cells u.cells
