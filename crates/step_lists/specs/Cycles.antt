-- The cycles through each event of a list of steps.
--
--   Round xs v k   of a table xs of step counts, of side 64: k is the fewest steps, at most 64, that lead from v back to itself
--   Rounds xs rs   rs has that number at each event, or none where no such steps lead back
use Rattle.std.specs.Prelude.{ℕ, ◌<◌, ◌≤◌, List, Option, None, MatchOption, slice_index_or}
use Rattle.measures.specs.Walks.{Walks}

pub record Round (xs : List ℕ) (v k : ℕ) : Type 0 where
  pub walked : Walks 64 xs v v k
  pub small : k ≤ 64
  pub fewest : (m : ℕ) → Walks 64 xs v v m → m ≤ 64 → k ≤ m

abbrev pub Rounds : List ℕ → List (Option ℕ) → Type 0
Rounds xs rs = (v : ℕ) → v < 64 → MatchOption (slice_index_or rs v None) ((m : ℕ) → Walks 64 xs v v m → 64 < m) (Round xs v)
