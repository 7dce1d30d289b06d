-- Every item stands in a permutation.
use Rattle.std.proofs.Common.{◌≡◌, ℕ, zero, suc, ◌<◌, ◌⊎◌, List, [], ◌∷◌, length, get_or, sym, inl, inr, arith}
use Rattle.std.proofs.ByRecursion.{All-from_get_or}
use Rattle.std.proofs.lemmas.Bool.{cases_eq}
use Rattle.cycles.specs.Cycles.{Distinct}
use Rattle.cycles.proofs.Walking.{few}
use Rattle.orders.specs.Orders.{Permutation, Among}

-- A list in which no item stands twice.
pub distinct : (q : List ℕ) → ((i j : ℕ) → i < j → j < length q → get_or q i 0 ≡ get_or q j 0 → ⊥) → Distinct q
distinct [] once = tt
distinct (x ∷ q) once = (
  All-from_get_or (λ w. x ≡ w → ⊥) q 0 (λ i h e. once 0 (suc i) (omega arith) (omega arith) e),
  distinct q (λ i j h p. once (suc i) (suc j) (omega arith) (omega arith)),
)

among_or_not : (q : List ℕ) (x : ℕ) → Among q x ⊎ (Among q x → ⊥)
among_or_not [] x = inr (λ a. omega (arith, a.within))
among_or_not (y ∷ q) x =
    elim (cases_eq y x) [
      | inl e ↦ inl (record { place = 0; within = omega arith; there = e })
      | inr apart ↦ elim (among_or_not q x) [
        | inl a ↦ inl (record { place = suc a.place; within = omega (arith, a.within); there = a.there })
        | inr none ↦ inr (λ a. later a.place a.within a.there apart none)
      ]
    ]
  where
    later : (i : ℕ) → i < suc (length q) → get_or (y ∷ q) i 0 ≡ x → (y ≡ x → ⊥) → (Among q x → ⊥) → ⊥
    later zero h e apart none = apart e
    later (suc i) h e apart none = none (record { place = i; within = omega arith; there = e })

pub each_stands : (n : ℕ) (q : List ℕ) → Permutation n q → (x : ℕ) → x < n → Among q x
each_stands n q p x h =
    elim (among_or_not q x) [
      | inl a ↦ a
      | inr none ↦
          let apart = All-from_get_or (λ w. x ≡ w → ⊥) q 0 (λ i k e. none (record { place = i; within = k; there = sym e })) in
          let many = few n (x ∷ q) (apart, distinct q p.once) (h, All-from_get_or (λ w. w < n) q 0 p.below) in
          absurd (omega (arith, many, p.whole))
    ]
