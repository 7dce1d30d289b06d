-- The lowest vertex with the shortest way back to itself.
use Rattle.std.proofs.Common.{◌≡◌, ◌≢◌, ℕ, ◌<◌, ◌≤◌, Bool, true, false, List, Option, Some, None, MatchOption, sym, subst, arith}
use Rattle.std.specs.Bool.{then_some}
use Rattle.measures.specs.Walks.{at}
use Rattle.cycles.specs.Distances.{AllFar, FewestBack, Nearest}

module _ (n : ℕ) (ys : List ℕ) where
  -- The least way back, kept if it is short enough to be one. `Gives` tells what the test answers.
  pub fewest_kept : (Gives : ℕ → Bool → Type 0) (r kept : Option ℕ) → ((m : ℕ) → Gives m true → m ≤ 64) → ((m : ℕ) → Gives m false → 64 < m) →
      MatchOption r (n ≡ 0) (λ m. ((a : ℕ) × (a < n) × (at n ys a a ≡ m)) × ((a : ℕ) → a < n → m ≤ at n ys a a)) →
      MatchOption r (kept ≡ None) (λ m. (b : Bool) × Gives m b × (kept ≡ then_some b m)) →
      MatchOption kept (AllFar n ys) (FewestBack n ys)
  fewest_kept Gives None kept short long h e = subst (λ o. MatchOption o (AllFar n ys) (FewestBack n ys)) (sym e) (λ a p. absurd (omega arith))
  fewest_kept Gives (Some m) kept short long h e = go e.0 e.1 e.2
    where
      go : (b : Bool) → Gives m b → kept ≡ then_some b m → MatchOption kept (AllFar n ys) (FewestBack n ys)
      go true k is = subst (λ o. MatchOption o (AllFar n ys) (FewestBack n ys)) (sym is) (record { some = h.0; least = h.1; small = short m k })
      go false k is = subst (λ o. MatchOption o (AllFar n ys) (FewestBack n ys)) (sym is) (λ a p. omega (arith, h.1 a p, long m k))

  pub nearest_found : (k : ℕ) → FewestBack n ys k → (r : Option ℕ) →
      MatchOption r ((a : ℕ) → 0 ≤ a → a < n → at n ys a a ≢ k)
      (λ s. (0 ≤ s) × (s < n) × (at n ys s s ≡ k) × ((a : ℕ) → 0 ≤ a → a < s → at n ys a a ≢ k)) →
      MatchOption r (AllFar n ys) (Nearest n ys)
  nearest_found k f None none = let there = f.some in absurd (none there.0 (omega arith) there.1 there.2)
  nearest_found k f (Some s) h =
      let below = h.1 in
      let is = h.2 in
      let small = f.small in
      record {
        below = below;
        small = omega arith;
        least = λ a p. omega (arith, f.least a p);
        first = λ a p. let other = h.3 a (omega arith) p in omega (arith, f.least a (omega arith));
      }
