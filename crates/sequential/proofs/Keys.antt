-- Two keys of the numbers below n as one, in which the first counts before the second.
use Rattle.std.proofs.Common.{◌≡◌, ℕ, suc, ◌+◌, ◌*◌, ◌<◌, ◌≤◌, true, refl, inl, inr, ⊎_elim, mul-le-mul_right, suc-mul, arith}
use Rattle.std.proofs.lemmas.Bool.{cases_lt, cases_order}
use Rattle.sequential.proofs.Below.{greatest, greatest_le}

module _ (n : ℕ) (f g : ℕ → ℕ) where
  pub lex : ℕ → ℕ
  lex e = f e * suc (greatest (λ _. true) g n) + g e

  pub lex_first : (a b : ℕ) → a < n → f a < f b → lex a < lex b
  unfolding lex
  lex_first a b l h =
      let w = suc (greatest (λ _. true) g n) in
      omega (arith, mul-le-mul_right w h, suc-mul (f a) w, greatest_le (λ _. true) g n a l refl)

  pub lex_second : (a b : ℕ) → f a ≤ f b → g a < g b → lex a < lex b
  unfolding lex
  lex_second a b h k = omega (arith, mul-le-mul_right (suc (greatest (λ _. true) g n)) h)

  pub lex_same : (a b : ℕ) → f a ≡ f b → g a ≡ g b → lex a ≡ lex b
  unfolding lex
  lex_same a b h k = rw (h, k)

  pub lex_le : (a b : ℕ) → b < n → lex a ≤ lex b → f a ≤ f b
  lex_le a b l h = ⊎_elim (λ k. absurd (omega (arith, lex_first b a l k))) (λ k. k) (cases_lt (f b) (f a))

  pub lex_eq : (a b : ℕ) → a < n → b < n → lex a ≡ lex b → (f a ≡ f b) × (g a ≡ g b)
  lex_eq a b l m e =
      let p : f a ≡ f b = omega (arith, lex_le a b m (omega arith), lex_le b a l (omega arith)) in (
        p,
        elim (cases_order (g a) (g b)) [
          | inl q ↦ q
          | inr (inl q) ↦ absurd (omega (arith, lex_second a b (omega arith) q))
          | inr (inr q) ↦ absurd (omega (arith, lex_second b a (omega arith) q))
        ],
      )
