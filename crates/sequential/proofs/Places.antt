-- The place of an entry in a list, and what stands before what.
use Rattle.std.proofs.Common.{◌≡◌, ℕ, zero, suc, ◌<◌, ◌≤◌, Bool, true, false, eqb, List, [], ◌∷◌, length, get_or, sym, refl, ◌∙◌, inl, inr, le_of_suc-le-suc, not-suc-le-zero, arith}
use Rattle.std.proofs.lemmas.Bool.{eqb-true, eq-eqb, cases_order}
use Rattle.axioms.specs.Orders.{Listed, Before, Once}

abbrev stop_if : Bool → ℕ → ℕ
stop_if true n = 0
stop_if false n = suc n

-- the first place of x in the list, or the list's length
pub place : List ℕ → ℕ → ℕ
place [] x = 0
place (y ∷ ys) x = stop_if (eqb y x) (place ys x)

-- a place within the list is x's
pub place_there : (xs : List ℕ) (x : ℕ) → place xs x < length xs → get_or xs (place xs x) 0 ≡ x
unfolding place
place_there [] x h = absurd (not-suc-le-zero h)
place_there (y ∷ ys) x h = stop_there (eqb y x) refl (place_there ys x) h
  where
    stop_there : (t : Bool) → eqb y x ≡ t → (place ys x < length ys → get_or ys (place ys x) 0 ≡ x) →
        stop_if t (place ys x) < suc (length ys) → get_or (y ∷ ys) (stop_if t (place ys x)) 0 ≡ x
    stop_there true e rest l = eqb-true y x e
    stop_there false e rest l = rest (omega arith)

place_first : (xs : List ℕ) (x k : ℕ) → k < length xs → get_or xs k 0 ≡ x → place xs x ≤ k
unfolding place
place_first [] x k h e = absurd (not-suc-le-zero h)
place_first (y ∷ ys) x zero h e = rw (eq-eqb y x e) (omega arith)
place_first (y ∷ ys) x (suc k) h e = stop_low (eqb y x) (place_first ys x k (le_of_suc-le-suc h) e)
  where
    stop_low : (t : Bool) → place ys x ≤ k → stop_if t (place ys x) ≤ suc k
    stop_low true l = omega arith
    stop_low false l = omega arith

pub place_within : (xs : List ℕ) (x : ℕ) → Listed xs x → place xs x < length xs
place_within xs x l = omega (arith, place_first xs x l.place l.within l.there, l.within)

pub place_listed : (xs : List ℕ) (x : ℕ) → place xs x < length xs → Listed xs x
place_listed xs x h = record { place = place xs x; within = h; there = place_there xs x h }

-- an entry that stands once has one place
place_is : (xs : List ℕ) (x k : ℕ) → Once xs → k < length xs → get_or xs k 0 ≡ x → place xs x ≡ k
place_is xs x k once h e =
    elim (cases_order (place xs x) k) [
      | inl q ↦ q
      | inr (inl l) ↦ absurd (once (place xs x) k l h (place_there xs x (omega arith) ∙ sym e))
      | inr (inr l) ↦ absurd (omega (arith, place_first xs x k h e))
    ]

pub place_up : (xs : List ℕ) (a b : ℕ) → Once xs → Before xs a b → place xs a < place xs b
place_up xs a b once h =
    let first = place_is xs a h.i once (omega (arith, h.earlier, h.within)) h.first in
    let second = place_is xs b h.j once h.within h.second in
    omega (arith, h.earlier)

pub place_before : (xs : List ℕ) (a b : ℕ) → place xs a < place xs b → place xs b < length xs → Before xs a b
place_before xs a b h l = record {
  i = place xs a;
  j = place xs b;
  earlier = h;
  within = l;
  first = place_there xs a (omega arith);
  second = place_there xs b l;
}

pub before_first : (xs : List ℕ) (a b : ℕ) → Before xs a b → Listed xs a
before_first xs a b h = record { place = h.i; within = omega (arith, h.earlier, h.within); there = h.first }
