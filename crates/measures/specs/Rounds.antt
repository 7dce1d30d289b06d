-- What one round of settling does to a table: every path may go through one vertex more.
--
--   cell means none xs j   what the value at j of xs means; past its end every value is none
--   relaxed                the entry from a to b once the vertex k may be gone through
--   RowRelaxed             each of the first `count` values of a row is the better of itself and the way by a vertex:
--                          `there` leads to it, and `on` leads on from it
--   RowsRelaxed            so is each row of a run of rows that is `size` long, n values to a row, by the vertex k
--   RoundDone              every entry of a table is relaxed
use Rattle.std.specs.Prelude.{◌≡◌, ℕ, ◌+◌, ◌*◌, ◌<◌, ◌≤◌, List, map, slice_index_or}

abbrev pub cell : {V W : Type 0} → (V → W) → W → List V → ℕ → W
cell means none xs j = slice_index_or (map means xs) j none

abbrev pub relaxed : {W : Type 0} → (W → W → W) → (W → W → W) → (ℕ → ℕ → W) → ℕ → ℕ → ℕ → W
relaxed joined better t k a b = better (t a b) (joined (t a k) (t k b))

pub record RowRelaxed {W : Type 0} (joined better : W → W → W) (count : ℕ) (there : W) (old on new : ℕ → W) : Type 0 where
  pub done : (j : ℕ) → j < count → new j ≡ better (old j) (joined there (on j))

pub record RowsRelaxed {W : Type 0} (joined better : W → W → W) (n k size : ℕ) (old on new : ℕ → W) : Type 0 where
  pub done : (a b : ℕ) → (a + 1) * n ≤ size → b < n → new (a * n + b) ≡ better (old (a * n + b)) (joined (old (a * n + k)) (on b))

pub record RoundDone {W : Type 0} (joined better : W → W → W) (n k : ℕ) (t t' : ℕ → ℕ → W) : Type 0 where
  pub done : (a b : ℕ) → a < n → b < n → t' a b ≡ relaxed joined better t k a b
