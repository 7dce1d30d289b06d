-- Of the numbers below n that pass a test: whether there is one, how many there are, and the greatest value at them.
use Rattle.std.proofs.Common.{◌≡◌, ℕ, zero, suc, ◌<◌, ◌≤◌, max, Bool, true, false, ◌||◌, ◌⊎◌, Decides, sym, refl, ap, ◌∙◌, subst, inl, inr, ⊎_elim, not-suc-le-zero, arith}
use Rattle.std.proofs.lemmas.Bool.{cases_eq, cases_lt, false≢true}
use Rattle.std.proofs.lemmas.Bool.Decides.{Decides-below_or}

pub some_below : (ℕ → Bool) → ℕ → Bool
some_below f zero = false
some_below f (suc n) = f n || some_below f n

pub some_below_decides : (f : ℕ → Bool) (P : ℕ → Type 0) → ((k : ℕ) → Decides (f k) (P k)) → (n : ℕ) → Decides (some_below f n) ((k : ℕ) × (k < n) × P k)
unfolding some_below
some_below_decides f P each n = Decides-below_or f P (some_below f) each refl (λ _. refl) n

abbrev one_more : Bool → ℕ → ℕ
one_more true m = suc m
one_more false m = m

pub count : (ℕ → Bool) → ℕ → ℕ
count f zero = 0
count f (suc n) = one_more (f n) (count f n)

one_more_le : (s t : Bool) (m n : ℕ) → (s ≡ true → t ≡ true) → m ≤ n → one_more s m ≤ one_more t n
one_more_le true true m n h l = omega arith
one_more_le true false m n h l = absurd (false≢true (h refl))
one_more_le false true m n h l = omega arith
one_more_le false false m n h l = l

one_more_lt : (s t : Bool) (m n : ℕ) → (s ≡ true → t ≡ true) → m < n → one_more s m < one_more t n
one_more_lt true true m n h l = omega arith
one_more_lt true false m n h l = absurd (false≢true (h refl))
one_more_lt false true m n h l = omega arith
one_more_lt false false m n h l = l

one_more_new : (s t : Bool) (m n : ℕ) → (s ≡ true → ⊥) → t ≡ true → m ≤ n → one_more s m < one_more t n
one_more_new true t m n h e l = absurd (h refl)
one_more_new false true m n h e l = omega arith
one_more_new false false m n h e l = absurd (false≢true e)

module _ (f g : ℕ → Bool) (sub : (k : ℕ) → f k ≡ true → g k ≡ true) where
  count_le : (n : ℕ) → count f n ≤ count g n
  unfolding count
  count_le zero = omega arith
  count_le (suc n) = one_more_le (f n) (g n) (count f n) (count g n) (sub n) (count_le n)

  -- k passes the wider test alone
  pub count_lt : (n k : ℕ) → k < n → (f k ≡ true → ⊥) → g k ≡ true → count f n < count g n
  unfolding count
  count_lt zero k l h e = absurd (not-suc-le-zero l)
  count_lt (suc n) k l h e =
      ⊎_elim (λ q. one_more_new (f n) (g n) (count f n) (count g n) (λ t. h (ap f q ∙ t)) (ap g (sym q) ∙ e) (count_le n))
      (λ q. one_more_lt (f n) (g n) (count f n) (count g n) (sub n) (count_lt n k (omega arith) h e))
      (cases_eq k n)

abbrev larger_if : Bool → ℕ → ℕ → ℕ
larger_if true x m = max x m
larger_if false x m = m

larger_if_ways : (t : Bool) (x m : ℕ) → ((t ≡ true) × (larger_if t x m ≡ x)) ⊎ (larger_if t x m ≡ m)
larger_if_ways true x m = ⊎_elim (λ l. inr (omega arith)) (λ l. inl (refl, omega arith)) (cases_lt x m)
larger_if_ways false x m = inr refl

larger_if_new : (t : Bool) (x m : ℕ) → t ≡ true → x ≤ larger_if t x m
larger_if_new true x m e = omega arith
larger_if_new false x m e = absurd (false≢true e)

larger_if_old : (t : Bool) (x m : ℕ) → m ≤ larger_if t x m
larger_if_old true x m = omega arith
larger_if_old false x m = omega arith

module _ (test : ℕ → Bool) (g : ℕ → ℕ) where
  -- the greatest g k, or 0 where no k passes
  pub greatest : ℕ → ℕ
  greatest zero = 0
  greatest (suc n) = larger_if (test n) (g n) (greatest n)

  pub greatest_is : (n : ℕ) → (greatest n ≡ 0) ⊎ ((k : ℕ) × (k < n) × (test k ≡ true) × (greatest n ≡ g k))
  unfolding greatest
  greatest_is zero = inl refl
  greatest_is (suc n) =
      elim (larger_if_ways (test n) (g n) (greatest n)) [
        | inl p ↦ inr (n, omega arith, p.0, p.1)
        | inr e ↦ ⊎_elim (λ z. inl (e ∙ z)) (λ k. inr (k.0, omega (arith, k.1), k.2, e ∙ k.3)) (greatest_is n)
      ]

  pub greatest_le : (n k : ℕ) → k < n → test k ≡ true → g k ≤ greatest n
  unfolding greatest
  greatest_le zero k l e = absurd (not-suc-le-zero l)
  greatest_le (suc n) k l e =
      ⊎_elim (λ q. subst (λ i. g i ≤ greatest (suc n)) (sym q) (larger_if_new (test n) (g n) (greatest n) (ap test (sym q) ∙ e)))
      (λ q. omega (arith, greatest_le n k (omega arith) e, larger_if_old (test n) (g n) (greatest n)))
      (cases_eq k n)

  pub greatest_lt : (n b : ℕ) → 0 < b → ((k : ℕ) → k < n → test k ≡ true → g k < b) → greatest n < b
  greatest_lt n b z h = ⊎_elim (λ e. omega arith) (λ k. omega (arith, k.3, h k.0 k.1 k.2)) (greatest_is n)
