-- How many orders there are.
--
--   Standing os q               q stands in os, a list of lists
--   Enumerates P os             os has the lists with P, each once, and no others
--   Counted P r                 r lists have P: some list that enumerates them has r entries
--   factorial n                 n!
--   CountedBehind b m old r     r orders begin with the first m items of old
use Rattle.std.specs.Prelude.{◌≡◌, ℕ, zero, suc, ◌-◌, ◌*◌, ◌<◌, ◌≤◌, List, [], length, get_or, take, ◌≢◌, slice_index_or}
use Rattle.orders.specs.Orders.{Order}
use Rattle.orders.specs.declared.precedence.Precedence.{Precedence}

pub record Standing (os : List (List ℕ)) (q : List ℕ) : Type 0 where
  pub place : ℕ
  pub within : place < length os
  pub there : get_or os place [] ≡ q

pub record Enumerates (P : List ℕ → Type 0) (os : List (List ℕ)) : Type 0 where
  pub each : (q : List ℕ) → Standing os q → P q
  pub all : (q : List ℕ) → P q → Standing os q
  pub once : (i j : ℕ) → i < j → j < length os → slice_index_or os i [] ≢ slice_index_or os j []

pub record Counted (P : List ℕ → Type 0) (r : ℕ) : Type 0 where
  pub lists : List (List ℕ)
  pub enumerates : Enumerates P lists
  pub count : length lists ≡ r

abbrev pub factorial : ℕ → ℕ
factorial zero = 1
factorial (suc n) = suc n * factorial n

pub record CountedBehind (b : Precedence) (m : ℕ) (old : List ℕ) (r : ℕ) : Type 0 where
  pub counted : Counted (λ q. Order b q × (take m q ≡ take m old)) r
  pub few : r ≤ factorial (b.count - m)
