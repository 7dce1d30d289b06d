-- Drawing a relation place by place.
use Rattle.std.proofs.Common.{◌≡◌, ℕ, ◌+◌, ◌*◌, ◌/◌, ◌%◌, ◌<◌, ◌≢◌, List, length, get_or, set, Decides, Result, Ok, Err, sym, ap, ◌∙◌, subst, inl, inr, arith}
use lib.Arith.{digits_lt, digits_div, digits_mod}
use Rattle.std.proofs.lemmas.List.{get_or-set_same, get_or-set_other}
use Rattle.std.proofs.lemmas.Bool.{cases_lt}
use Rattle.measures.specs.declared.settling.Refusal.{Refusal}
use Rattle.measures.specs.Reach.{yes}
use Rattle.measures.specs.Walks.{at}
use Rattle.axioms.specs.Tables.{Drawing, DrawingEach}

-- The places before k are drawn.
abbrev pub DrawnTo : (ℕ → ℕ → Type 0) → ℕ → List ℕ → ℕ → Type 0
DrawnTo R n xs k = (c d : ℕ) → d < n → c * n + d < k → Decides (yes (at n xs c d)) (R c d)

-- One place more.
pub drawn_more : (R : ℕ → ℕ → Type 0) (n a b v : ℕ) (xs : List ℕ) → b < n → a * n + b < length xs → Decides (yes v) (R a b) →
    DrawnTo R n xs (a * n + b) → DrawnTo R n (set xs (a * n + b) v) (a * n + (b + 1))
drawn_more R n a b v xs bn within told so_far c d q h =
    elim (cases_lt (c * n + d) (a * n + b)) [
      | inl l ↦
          let apart : c * n + d ≢ a * n + b = omega arith in
          subst (λ w. Decides (yes w) (R c d)) (sym (get_or-set_other xs (a * n + b) (c * n + d) v 0 apart)) (so_far c d q l)
      | inr l ↦
          let same : c * n + d ≡ a * n + b = omega arith in
          let row : a ≡ c = sym (digits_div a bn) ∙ ap (λ p. p / n) (sym same) ∙ digits_div c q in
          let column : b ≡ d = sym (digits_mod a bn) ∙ ap (λ p. p % n) (sym same) ∙ digits_mod c q in
          let here : get_or (set xs (a * n + b) v) (c * n + d) 0 ≡ v =
          ap (λ p. get_or (set xs (a * n + b) v) p 0) same ∙ get_or-set_same xs (a * n + b) v 0 within in
          subst (λ w. Decides (yes w) (R c d)) (sym here) (subst (λ r. Decides (yes v) (R r d)) row (subst (λ s. Decides (yes v) (R a s)) column told))
    ]

pub place_within : (a b n : ℕ) → a < n → b < n → a * n + b < n * n
place_within a b n p q = digits_lt p q

-- The family of one relation alone draws as that relation does.
pub drawing_alone : (R : ℕ → ℕ → Type 0) (n : ℕ) (xs ys : List ℕ) (r : Result (Unit {0}) Refusal) → DrawingEach (Unit {0}) (λ _. R) n xs ys r → Drawing R n xs ys r
drawing_alone R n xs ys (Ok u) h = (h.0, h.1 tt)
drawing_alone R n xs ys (Err why) h = h
