-- Tables of measures, the paths through them, and what a settled table is.
--
--   entry means none n xs a b   what the value in row a and column b of a table of side n means
--   weight joined t a vs b      the measure of the path from a through the vertices vs to b, joined along it
--   Beats better x y            x is no worse than y
--   Reached                     a measure is none, or some path has it
--   Settled                     each entry of a table is the best over all paths of one step or more through another
use Rattle.std.specs.Prelude.{◌≡◌, ℕ, ◌+◌, ◌*◌, ◌<◌, ◌⊎◌, List, [], ◌∷◌, map, slice_index_or}
use Rattle.std.specs.List.{AllByRecursion}

-- A table is kept row by row; past its end every entry is none.
abbrev pub entry : {V W : Type 0} → (V → W) → W → ℕ → List V → ℕ → ℕ → W
entry means none n xs a b = slice_index_or (map means xs) (a * n + b) none

-- With no vertex between, the path is the one step from a to b.
abbrev pub weight : {W : Type 0} → (W → W → W) → (ℕ → ℕ → W) → ℕ → List ℕ → ℕ → W
weight joined t a [] b = t a b
weight joined t a (v ∷ vs) b = joined (t a v) (weight joined t v vs b)

abbrev pub Beats : {W : Type 0} → (W → W → W) → W → W → Type 0
Beats better x y = better x y ≡ x

abbrev pub Reached : {W : Type 0} → W → (W → W → W) → ℕ → (ℕ → ℕ → W) → ℕ → ℕ → W → Type 0
Reached none joined n t a b w =
    (w ≡ none) ⊎ ((vs : List ℕ) × AllByRecursion (λ v. v < n) vs × (weight joined t a vs b ≡ w))

-- No path of t is better than the entry of t', and unless that is none some path has it.
pub record Settled {W : Type 0} (none : W) (joined better : W → W → W) (n : ℕ) (t t' : ℕ → ℕ → W) : Type 0 where
  pub bound : (a b : ℕ) (vs : List ℕ) → a < n → b < n → AllByRecursion (λ v. v < n) vs → Beats better (t' a b) (weight joined t a vs b)
  pub reached : (a b : ℕ) → a < n → b < n → Reached none joined n t a b (t' a b)
