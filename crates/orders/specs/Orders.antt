-- Orders of items that go by number, from 0.
--
--   Permutation n q    q lists the items below n: they are n, and none stands twice
--   Begins p q         q begins with p
--   Precedes b x y     two distinct items of which x has to come before y, by the precedence b
--   Pair n u v x y     x and y are the items u and v, distinct and below n
--   Among p x          x stands in p
--   Respects b q       before each item of q stand those that have to come before it
--   Order b q          a permutation of the items of b that respects b
--   Free b p x         x may stand next behind p: it is not in p, and those that have to come before it are
--   Passing b F q      an order that does not fail. F says which fail
--   First b F q        the first of the passing orders: at the first place where two differ, the lower item comes first
--   Found b F r        what `find_order` answers: the first passing order and then 0, or none, since every order fails
use Rattle.std.specs.Prelude.{◌≡◌, ℕ, ◌-◌, ◌<◌, true, false, ◌≢◌, List, [], ◌++◌, length, take, drop, replicate, Option, MatchOption, slice_index, slice_index_or}
use Rattle.cycles.specs.Cycles.{NotAfter}
use Rattle.orders.specs.declared.precedence.Precedence.{Precedence}

pub record Permutation (n : ℕ) (q : List ℕ) : Type 0 where
  pub whole : length q ≡ n
  pub below : (i : ℕ) → i < length q → slice_index q i < n
  pub once : (i j : ℕ) → i < j → j < length q → slice_index q i ≢ slice_index q j

abbrev pub Begins : List ℕ → List ℕ → Type 0
Begins p q = (rest : List ℕ) × (q ≡ p ++ rest)

pub record Precedes (b : Precedence) (x y : ℕ) : Type 0 where
  pub first : x < b.count
  pub second : y < b.count
  pub distinct : x ≢ y
  pub related : slice_index_or (slice_index_or b.cells x []) y false ≡ true

pub record Pair (n u v x y : ℕ) : Type 0 where
  pub first : x ≡ u
  pub second : y ≡ v
  pub first_below : x < n
  pub second_below : y < n
  pub distinct : x ≢ y

pub record Among (p : List ℕ) (x : ℕ) : Type 0 where
  pub place : ℕ
  pub within : place < length p
  pub there : slice_index_or p place 0 ≡ x

abbrev pub Respects : Precedence → List ℕ → Type 0
Respects b q = (j : ℕ) → j < length q → (x : ℕ) → Precedes b x (slice_index q j) → Among (take j q) x

pub record Order (b : Precedence) (q : List ℕ) : Type 0 where
  pub permutation : Permutation b.count q
  pub respects : Respects b q

pub record Free (b : Precedence) (p : List ℕ) (x : ℕ) : Type 0 where
  pub new : Among p x → ⊥
  pub ready : (w : ℕ) → Precedes b w x → Among p w

pub record Passing (b : Precedence) (F : List ℕ → Type 0) (q : List ℕ) : Type 0 where
  pub order : Order b q
  pub passes : F q → ⊥

pub record First (b : Precedence) (F : List ℕ → Type 0) (q : List ℕ) : Type 0 where
  pub passing : Passing b F q
  pub first : (p : List ℕ) → Passing b F p → NotAfter q p

pub record FirstInFront (b : Precedence) (F : List ℕ → Type 0) (out : List ℕ) : Type 0 where
  pub front : First b F (take b.count out)
  pub rest : drop b.count out ≡ replicate (8 - b.count) 0

abbrev pub Found : Precedence → (List ℕ → Type 0) → Option (List ℕ) → Type 0
Found b F r = MatchOption r ((q : List ℕ) → Order b q → F q) (FirstInFront b F)
