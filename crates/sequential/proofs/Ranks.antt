-- Steps that make no cycle have ranks that go up along them.
use Rattle.std.proofs.Common.{◌≡◌, ℕ, zero, suc, ◌<◌, Bool, true, ◌&&◌, ◌||◌, ◌⊎◌, subst, inl, inr, ⊎_elim, not-suc-le-zero, arith}
use Rattle.std.proofs.lemmas.Bool.{cases_eq, or_cases, or_left, or_right, and_parts, and_from}
use Rattle.measures.specs.Walks.{Leads, last, more}
use Rattle.cycles.specs.Cycles.{NoCycle}
use Rattle.sequential.proofs.Below.{count, count_lt}

-- steps along which a number goes up lead up
pub leads_up : (R : ℕ → ℕ → Type 0) (f : ℕ → ℕ) → ((a b : ℕ) → R a b → f a < f b) → (b a : ℕ) → Leads R a b → f a < f b
leads_up R f up b a (last p) = up a b p
leads_up R f up b a (more {v = v} p q) = omega (arith, up a v p, leads_up R f up b v q)

leads_on : (R : ℕ → ℕ → Type 0) (c b a : ℕ) → Leads R a b → Leads R b c → Leads R a c
leads_on R c b a (last p) q = more p q
leads_on R c b a (more {v = v} p r) q = more p (leads_on R c b v r q)

module _ (step : ℕ → ℕ → Bool) where
  abbrev pub Step : ℕ → ℕ → Type 0
  Step a b = step a b ≡ true

  -- whether steps lead from a to b by way of the numbers below k
  reach : ℕ → ℕ → ℕ → Bool
  reach zero a b = step a b
  reach (suc k) a b = reach k a b || (reach k a k && reach k k b)

  reach_ways : (k a b : ℕ) → reach (suc k) a b ≡ true → (reach k a b ≡ true) ⊎ ((reach k a k ≡ true) × (reach k k b ≡ true))
  unfolding reach
  reach_ways k a b e = ⊎_elim inl (λ h. inr (and_parts (reach k a k) (reach k k b) h)) (or_cases (reach k a b) (reach k a k && reach k k b) e)

  reach_still : (k a b : ℕ) → reach k a b ≡ true → reach (suc k) a b ≡ true
  unfolding reach
  reach_still k a b e = or_left (reach k a b) (reach k a k && reach k k b) e

  reach_by : (k a b : ℕ) → reach k a k ≡ true → reach k k b ≡ true → reach (suc k) a b ≡ true
  unfolding reach
  reach_by k a b d e = or_right (reach k a b) (reach k a k && reach k k b) (and_from (reach k a k) (reach k k b) d e)

  reach_step : (k a b : ℕ) → Step a b → reach k a b ≡ true
  unfolding reach
  reach_step zero a b e = e
  reach_step (suc k) a b e = reach_still k a b (reach_step k a b e)

  reach_leads : (k a b : ℕ) → reach k a b ≡ true → Leads Step a b
  unfolding reach
  reach_leads zero a b e = last e
  reach_leads (suc k) a b e =
      ⊎_elim (reach_leads k a b) (λ h. leads_on Step b k a (reach_leads k a k h.0) (reach_leads k k b h.1)) (reach_ways k a b e)

  reach_on : (k a j b : ℕ) → j < k → reach k a j ≡ true → reach k j b ≡ true → reach k a b ≡ true
  reach_on zero a j b l d e = absurd (not-suc-le-zero l)
  reach_on (suc k) a j b l d e =
      elim (cases_eq j k) [
        | inl q ↦
            let to : reach k a k ≡ true = ⊎_elim (λ h. h) (λ h. h.0) (reach_ways k a k (subst (λ i. reach (suc k) a i ≡ true) q d)) in
            let on : reach k k b ≡ true = ⊎_elim (λ h. h) (λ h. h.1) (reach_ways k k b (subst (λ i. reach (suc k) i b ≡ true) q e)) in
            reach_by k a b to on
        | inr q ↦
            let m : j < k = omega arith in
            elim (reach_ways k a j d) [
              | inl x ↦ ⊎_elim (λ y. reach_still k a b (reach_on k a j b m x y)) (λ y. reach_by k a b (reach_on k a j k m x y.0) y.1) (reach_ways k j b e)
              | inr x ↦ ⊎_elim (λ y. reach_by k a b x.0 (reach_on k k j b m x.1 y)) (λ y. reach_by k a b x.0 y.1) (reach_ways k j b e)
            ]
      ]

  -- how many of the numbers below n lead to w
  pub rank : ℕ → ℕ → ℕ
  rank n w = count (λ q. reach n q w) n

  pub rank_up : NoCycle Step → (n p q : ℕ) → p < n → Step p q → rank n p < rank n q
  unfolding rank
  rank_up none n p q l e =
      let on = reach_step n p q e in
      count_lt (λ x. reach n x p) (λ x. reach n x q) (λ x d. reach_on n x p q l d on) n p l (λ d. none p (reach_leads n p p d)) on
