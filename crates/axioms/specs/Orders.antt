-- Places in a list of events.
--
--   Listed L a     a stands in L
--   Before L a b   a stands at an earlier place of L than b
--   Once L         no event stands twice in L
use Rattle.std.specs.Prelude.{◌≡◌, ℕ, ◌<◌, List, length, ◌≢◌, slice_index, slice_index_or}

pub record Listed (L : List ℕ) (a : ℕ) : Type 0 where
  pub place : ℕ
  pub within : place < length L
  pub there : slice_index_or L place 0 ≡ a

pub record Before (L : List ℕ) (a b : ℕ) : Type 0 where
  pub i : ℕ
  pub j : ℕ
  pub earlier : i < j
  pub within : j < length L
  pub first : slice_index_or L i 0 ≡ a
  pub second : slice_index_or L j 0 ≡ b

abbrev pub Once : List ℕ → Type 0
Once L = (i j : ℕ) → i < j → j < length L → slice_index L i ≢ slice_index L j
