-- The search for the next vertex: the first that will do is the lowest.
use Rattle.std.proofs.Common.{◌≡◌, ℕ, ◌<◌, ◌≤◌, true, not, List, Option, Some, None, MatchOption, refl, ap, inl, inr, arith}
use Rattle.std.proofs.lemmas.Bool.{cases_lt, ne_eqb, both_ways, eq-eqb}
use Rattle.measures.specs.Reach.{yes}
use Rattle.measures.specs.Walks.{at, Yes}

pub yes_where_not_0 : (x : ℕ) → (x ≡ 0 → ⊥) → yes x ≡ true
yes_where_not_0 x h = ap not (ne_eqb x 0 h)

pub not_0_where_yes : (x : ℕ) → yes x ≡ true → x ≡ 0 → ⊥
not_0_where_yes x h e = both_ways (yes x) (ap not (eq-eqb x 0 e)) h

-- A vertex that a step leads to and that has `left` steps to go, as a search among the vertices finds it.
pub record Chosen (n : ℕ) (xs ys : List ℕ) (from to left w : ℕ) : Type 0 where
  pub step : Yes n xs from w
  pub nearer : at n ys w to ≡ left
  pub lowest : (v : ℕ) → Yes n xs from v → at n ys v to ≡ left → w ≤ v

module _ (n : ℕ) (xs ys : List ℕ) (from to left : ℕ) (row : from < n) (there : (w : ℕ) × Yes n xs from w × (at n ys w to ≡ left)) where
  pub chosen : (r : Option ℕ) →
      MatchOption r ((k : ℕ) → 0 ≤ k → k < n → yes (at n xs from k) ≡ true → at n ys k to ≡ left → ⊥)
      (λ w. (0 ≤ w) × (w < n) × ((yes (at n xs from w) ≡ true) × (at n ys w to ≡ left)) × ((k : ℕ) → 0 ≤ k → k < w → yes (at n xs from k) ≡ true → at n ys k to ≡ left → ⊥)) →
      (w : ℕ) × (r ≡ Some w) × Chosen n xs ys from to left w
  chosen None none = absurd (none there.0 (omega arith) there.1.column there.1.is_yes there.2)
  chosen (Some w) h = (
    w,
    refl,
    record {
      step = record { row = row; column = h.1; is_yes = h.2.0 };
      nearer = h.2.1;
      lowest = λ v s e. elim (cases_lt v w) [ inl l ↦ absurd (h.3 v (omega arith) l s.is_yes e) | inr l ↦ l ];
    },
  )
