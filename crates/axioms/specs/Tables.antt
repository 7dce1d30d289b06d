-- The yes/no table of a relation.
--
--   Drawn R n xs      xs is a table of side n that says yes exactly where R leads from the row to the column
--   Drawing R n xs ys what holds after `draw`: a square table became R's, or one that is not square was refused
--   DrawingEach K R n xs ys   the same after `draw_family`: the table became that of each relation R k
--   CellsJoined gains xs ys   the cells xs became ys, which have the yes of gains too
--   SideOf es n       n is the side of a table for a graph with the added events es, which are at most 56
--   TooMany es why    a refusal, since es are more than 56 events
use Rattle.std.specs.Prelude.{◌≡◌, ℕ, ◌+◌, ◌<◌, ◌≤◌, ◌||◌, List, length, Decides, Result, slice_index}
use Rattle.measures.specs.declared.settling.Refusal.{Refusal}
use Rattle.measures.specs.declared.settling.Refusal.TheVariants.{NotSquare}
use Rattle.measures.specs.Outcome.{Either}
use Rattle.measures.specs.Reach.{yes}
use Rattle.measures.specs.Walks.{at}
use Rattle.graph.specs.declared.event.Event.{Event}

abbrev pub Drawn : (ℕ → ℕ → Type 0) → ℕ → List ℕ → Type 0
Drawn R n xs = (a b : ℕ) → a < n → b < n → Decides (yes (at n xs a b)) (R a b)

abbrev pub Drawing : (ℕ → ℕ → Type 0) → ℕ → List ℕ → List ℕ → Result (Unit {0}) Refusal → Type 0
Drawing R = Either (λ n xs ys. Drawn R n ys)

abbrev pub DrawingEach : (K : Type 0) → (K → ℕ → ℕ → Type 0) → ℕ → List ℕ → List ℕ → Result (Unit {0}) Refusal → Type 0
DrawingEach K R = Either (λ n xs ys. (k : K) → Drawn (R k) n ys)

abbrev pub CellsJoined : List ℕ → List ℕ → List ℕ → Type 0
CellsJoined gains xs ys = (k : ℕ) → k < length xs → yes (slice_index ys k) ≡ (yes (slice_index xs k) || yes (slice_index gains k))

abbrev pub SideOf : List Event → ℕ → Type 0
SideOf es n = (n ≡ length es + 8) × (n ≤ 64)

pub record TooMany (es : List Event) (why : Refusal) : Type 0 where
  pub refusal : why ≡ NotSquare
  pub many : 56 < length es
