-- Relations with the same steps, and tables that tell a relation.
--
--   Same R S         each step of R is one of S, and each of S is one of R
--   TableOf n xs R   the yes/no table xs of side n tells R: its vertices are below n, and an entry is yes exactly
--                    where R has a step from its row to its column
use Rattle.std.specs.Prelude.{ℕ, ◌<◌, List, Decides}
use Rattle.measures.specs.Reach.{yes}
use Rattle.measures.specs.Walks.{at}

pub record Same (R S : ℕ → ℕ → Type 0) : Type 0 where
  pub to : (a b : ℕ) → R a b → S a b
  pub from : (a b : ℕ) → S a b → R a b

pub record TableOf (n : ℕ) (xs : List ℕ) (R : ℕ → ℕ → Type 0) : Type 0 where
  pub within : (a b : ℕ) → R a b → (a < n) × (b < n)
  pub tells : (a b : ℕ) → a < n → b < n → Decides (yes (at n xs a b)) (R a b)
