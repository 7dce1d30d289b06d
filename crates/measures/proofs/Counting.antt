-- A settled table of step counts says the fewest steps.
use Rattle.std.proofs.Common.{◌≡◌, ℕ, ◌*◌, ◌<◌, ◌≤◌, min, List, [], ◌∷◌, length, refl, ap, ◌∙◌, subst, inl, inr, arith}
use Rattle.std.specs.List.{AllByRecursion}
use Rattle.measures.specs.Paths.{entry, weight, Settled}
use Rattle.measures.specs.Steps.{counted, no_steps, added, fewer}
use Rattle.measures.specs.Walks.{at, Walks, last, more, Fewest}
use Rattle.measures.proofs.Tables.{entry_is}

-- A path whose counts add up to k.
pub record CountedPath (n : ℕ) (xs : List ℕ) (a b k : ℕ) : Type 0 where
  pub between : List ℕ
  pub row : a < n
  pub column : b < n
  pub within : AllByRecursion (λ v. v < n) between
  pub sum : (weight added (entry counted no_steps n xs) a between b).count ≡ min k 65

module _ (n : ℕ) (xs : List ℕ) (square : length xs ≡ n * n) where
  count : (a b : ℕ) → a < n → b < n → (entry counted no_steps n xs a b).count ≡ min (at n xs a b) 65
  count a b p q = ap (λ w. w.count) (entry_is counted no_steps n xs a b 0 square p q)

  walks_path : (b a k : ℕ) → Walks n xs a b k → CountedPath n xs a b k
  walks_path b a k (last s) = record {
    between = [];
    row = s.row;
    column = s.column;
    within = tt;
    sum = count a b s.row s.column ∙ ap (λ m. min m 65) s.count;
  }
  walks_path b a m (more {v = v} {k = k} {l = l} s r e) =
      let p = walks_path b v l r in
      let first = count a v s.row s.column in
      let is = s.count in
      let rest = p.sum in
      record {
        between = v ∷ p.between;
        row = s.row;
        column = p.column;
        within = (s.column, p.within);
        sum = omega arith;
      }

  path_walks : (a b : ℕ) (vs : List ℕ) → a < n → b < n → AllByRecursion (λ v. v < n) vs →
      (weight added (entry counted no_steps n xs) a vs b).count ≤ 64 → Walks n xs a b (weight added (entry counted no_steps n xs) a vs b).count
  path_walks a b [] p q r h =
      let is = count a b p q in last (record { row = p; column = q; count = omega arith; some = h })
  path_walks a b (v ∷ vs) p q r h =
      let is = count a v p r.0 in
      more {k = at n xs a v} (record { row = p; column = r.0; count = refl; some = omega arith })
      (path_walks v b vs r.0 q r.1 (omega arith))
      (omega arith)

pub fewest_steps : (n : ℕ) (xs ys : List ℕ) → length xs ≡ n * n → length ys ≡ n * n →
    Settled no_steps added fewer n (entry counted no_steps n xs) (entry counted no_steps n ys) → Fewest n xs ys
fewest_steps n xs ys sx sy s = record {
  walked = λ a b p q h.
      let is = count n ys sy a b p q in
      elim (s.reached a b p q) [
        | inl f ↦ absurd (omega (arith, ap (λ w. w.count) f))
        | inr r ↦
            let same : (weight added (entry counted no_steps n xs) a r.0 b).count ≡ (entry counted no_steps n ys a b).count = ap (λ w. w.count) r.2 in
            subst (Walks n xs a b) (omega arith) (path_walks n xs sx a b r.0 p q r.1 (omega arith))
      ];
  fewest = λ a b k w h.
      let r = walks_path n xs sx b a k w in
      let is = count n ys sy a b r.row r.column in
      let sum = r.sum in
      let best : min (entry counted no_steps n ys a b).count (weight added (entry counted no_steps n xs) a r.between b).count ≡ (entry counted no_steps n ys a b).count =
      ap (λ w. w.count) (s.bound a b r.between r.row r.column r.within) in
      omega arith;
}
