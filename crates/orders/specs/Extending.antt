-- The search for an order, from the items that are placed.
--
--   Lined b p                    p may be the front of an order: items of b, none twice, and before each stand those that have to come
--                                before it
--   Extended b F m old r         r tells the first of the passing orders that begin with the first m items of old, if there is one.
--                                It stands in front, and behind the items of b the list is as old is
use Rattle.std.specs.Prelude.{◌≡◌, ℕ, ◌<◌, Option, MatchOption, List, length, take, drop, ◌≢◌, slice_index}
use Rattle.cycles.specs.Cycles.{NotAfter}
use Rattle.orders.specs.Orders.{Order, Passing, Respects}
use Rattle.orders.specs.declared.precedence.Precedence.{Precedence}

pub record Lined (b : Precedence) (p : List ℕ) : Type 0 where
  pub below : (i : ℕ) → i < length p → slice_index p i < b.count
  pub once : (i j : ℕ) → i < j → j < length p → slice_index p i ≢ slice_index p j
  pub respects : Respects b p

pub record FirstBehind (b : Precedence) (F : List ℕ → Type 0) (m : ℕ) (old : List ℕ) (out : List ℕ) : Type 0 where
  pub passing : Passing b F (take b.count out)
  pub first : (p : List ℕ) → Passing b F p → take m p ≡ take m old → NotAfter (take b.count out) p
  pub front : take m out ≡ take m old
  pub rest : drop b.count out ≡ drop b.count old

abbrev pub Extended : (b : Precedence) → (List ℕ → Type 0) → ℕ → List ℕ → Option (List ℕ) → Type 0
Extended b F m old r = MatchOption r ((q : List ℕ) → Order b q → take m q ≡ take m old → F q) (FirstBehind b F m old)
