-- Closed chains and distinct starts, by places.
use Rattle.std.proofs.Common.{◌≡◌, ℕ, zero, suc, ◌+◌, ◌<◌, ltb, List, [], ◌∷◌, length, get_or, sym, refl, ap, ◌∙◌, inl, inr, arith}
use Rattle.std.proofs.ByRecursion.{All-get_or, All-from_get_or}
use Rattle.std.proofs.lemmas.List.{get_or_append_left, get_or_push, length_push}
use Rattle.std.proofs.lemmas.Bool.{cases_lt, lt-ltb, le-ltb, cond-true, cond-false}
use Rattle.cycles.specs.Cycles.{Distinct}
use Rattle.sheets.specs.Entries.{next}
use Rattle.sheets.specs.WellLaid.{turned}

next_inside : (n k : ℕ) → k + 1 < n → next n k ≡ k + 1
next_inside n k h = cond-true (ltb (k + 1) n) (k + 1) 0 (lt-ltb (k + 1) n h)

next_last : (n k : ℕ) → n ≡ k + 1 → next n k ≡ 0
next_last n k e = cond-false (ltb (k + 1) n) (k + 1) 0 (le-ltb (k + 1) n (omega arith))

pub next_below : (n k : ℕ) → k < n → next n k < n
next_below n k h = elim (cases_lt (k + 1) n) [
  | inl l ↦ rw (next_inside n k l) l
  | inr l ↦ let e : n ≡ k + 1 = omega arith in rw (next_last n k e) (omega arith)
]

pub length_turned : (xs : List ℕ) → length (turned xs) ≡ length xs
length_turned [] = refl
length_turned (x ∷ xs) = length_push xs x ∙ omega arith

pub get_or_turned : (xs : List ℕ) (i : ℕ) → i < length xs → get_or (turned xs) i 0 ≡ get_or xs (next (length xs) i) 0
get_or_turned [] i h = absurd (omega arith)
get_or_turned (x ∷ xs) i h = elim (cases_lt i (length xs)) [
  | inl l ↦
      let on : suc i ≡ next (suc (length xs)) i = omega (arith, next_inside (suc (length xs)) i (omega arith)) in
      get_or_append_left xs (x ∷ []) 0 i l ∙ ap (λ k. get_or (x ∷ xs) k 0) on
  | inr l ↦
      let last : length xs ≡ i = omega arith in
      let on : 0 ≡ next (suc (length xs)) i = sym (next_last (suc (length xs)) i (omega arith)) in
      get_or_push xs x 0 i last ∙ ap (λ k. get_or (x ∷ xs) k 0) on
]

pub distinct_from_places : (xs : List ℕ) → ((i j : ℕ) → i < j → j < length xs → get_or xs i 0 ≡ get_or xs j 0 → ⊥) → Distinct xs
distinct_from_places [] apart = tt
distinct_from_places (x ∷ xs) apart = (
  All-from_get_or (λ w. x ≡ w → ⊥) xs 0 (λ i h e. apart 0 (suc i) (omega arith) (omega arith) e),
  distinct_from_places xs (λ i j h l e. apart (suc i) (suc j) (omega arith) (omega arith) e),
)

pub places_from_distinct : (xs : List ℕ) → Distinct xs → (i j : ℕ) → i < j → j < length xs → get_or xs i 0 ≡ get_or xs j 0 → ⊥
places_from_distinct [] d i j h l e = omega arith
places_from_distinct (x ∷ xs) d zero zero h l e = omega arith
places_from_distinct (x ∷ xs) d zero (suc j) h l e = All-get_or (λ w. x ≡ w → ⊥) xs j 0 (omega arith) d.0 e
places_from_distinct (x ∷ xs) d (suc i) zero h l e = omega arith
places_from_distinct (x ∷ xs) d (suc i) (suc j) h l e = places_from_distinct xs d.1 i j (omega arith) (omega arith) e
