-- What settling answers.
--
--   number       the number of a refusal
--   Square       a side of at most 64, and as many values as a square of that side has
--   Inside       a row and a column of such a table
--   Refused      the table is not square, and is untouched
--   Either       the table was square and became another in a given way, or it is refused
--   Outcome      each entry became the best over all paths, or the table is refused
use Rattle.std.specs.Prelude.{◌≡◌, ℕ, ◌*◌, ◌<◌, ◌≤◌, List, length, Result, MatchResult}
use Rattle.measures.specs.declared.settling.Refusal.{Refusal}
use Rattle.measures.specs.declared.settling.Refusal.TheVariants.{NotSquare}
use Rattle.measures.specs.Paths.{entry, Settled}

abbrev pub number : Refusal → ℕ
number NotSquare = 15

abbrev pub Square : {V : Type 0} → ℕ → List V → Type 0
Square n xs = (n ≤ 64) × (length xs ≡ n * n)

abbrev pub Inside : {V : Type 0} → ℕ → List V → ℕ → ℕ → Type 0
Inside n xs a b = Square n xs × ((a < n) × (b < n))

pub record Refused {V : Type 0} (n : ℕ) (xs ys : List V) (why : Refusal) : Type 0 where
  pub refusal : why ≡ NotSquare
  pub unfit : Square n xs → ⊥
  pub untouched : ys ≡ xs

-- a square table xs became ys as F says, or a table that is not square was refused
abbrev pub Either : {V : Type 0} → (ℕ → List V → List V → Type 0) → ℕ → List V → List V → Result (Unit {0}) Refusal → Type 0
Either F n xs ys r = MatchResult r (λ _. Square n xs × F n xs ys) (Refused n xs ys)

abbrev pub Outcome : {V W : Type 0} → W → (W → W → W) → (W → W → W) → (V → W) → ℕ → List V → List V → Result (Unit {0}) Refusal → Type 0
Outcome none joined better means =
    Either (λ n xs ys. Settled none joined better n (entry means none n xs) (entry means none n ys))
