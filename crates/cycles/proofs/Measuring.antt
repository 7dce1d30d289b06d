-- A settled table of step counts tells the fewest steps between vertices.
use Rattle.std.proofs.Common.{◌≡◌, ℕ, ◌+◌, ◌*◌, ◌<◌, cond, List, [], ◌∷◌, length, sym, ap, ◌∙◌, inl, inr, arith}
use Rattle.std.proofs.lemmas.Bool.{cases_Bool}
use Rattle.measures.specs.Reach.{yes}
use Rattle.measures.specs.Walks.{at, Yes, Counts, Walks, last, more, Fewest}
use Rattle.measures.proofs.Tables.{place_in}
use Rattle.cycles.specs.Cycles.{Walk}
use Rattle.cycles.specs.Distances.{Marked, Distances}

module _ (n : ℕ) (xs zs : List ℕ) (square : length xs ≡ n * n) (marked : Marked xs zs) where
  mark_of : (a b : ℕ) → a < n → b < n → at n zs a b ≡ cond (yes (at n xs a b)) 1 255
  mark_of a b p q = marked (a * n + b) (rw square (place_in p q))

  one : (a b : ℕ) → Yes n xs a b → Counts n zs a b 1
  one a b s = record {
    row = s.row;
    column = s.column;
    count = mark_of a b s.row s.column ∙ ap (λ t. cond t 1 255) s.is_yes;
    some = omega arith;
  }

  -- A count of at most 64 is the one of a step.
  step_of : (a b k : ℕ) → Counts n zs a b k → Yes n xs a b × (k ≡ 1)
  step_of a b k c =
      elim (cases_Bool (yes (at n xs a b))) [
        | inl e ↦
            let m = mark_of a b c.row c.column ∙ ap (λ t. cond t 1 255) e in
            (record { row = c.row; column = c.column; is_yes = e }, sym c.count ∙ m)
        | inr e ↦
            let m = mark_of a b c.row c.column ∙ ap (λ t. cond t 1 255) e in
            let is = c.count in
            let some = c.some in
            absurd (omega arith)
      ]

  walk_counts : (a b : ℕ) (vs : List ℕ) → Walk (Yes n xs) a vs b → Walks n zs a b (length vs + 1)
  walk_counts a b [] p = last (one a b p)
  walk_counts a b (v ∷ vs) p = more (one a v p.0) (walk_counts v b vs p.1) (omega arith)

  counts_walk : (b a k : ℕ) → Walks n zs a b k → (vs : List ℕ) × Walk (Yes n xs) a vs b × (length vs + 1 ≡ k)
  counts_walk b a k (last c) = let s = step_of a b k c in let e = s.1 in ([], s.0, omega arith)
  counts_walk b a m (more {v = v} {k = k} {l = l} c r e) =
      let s = step_of a v k c in
      let w = counts_walk b v l r in
      let one = s.1 in
      let long = w.2 in
      (v ∷ w.0, (s.0, w.1), omega arith)

  pub distances : (ys : List ℕ) → Fewest n zs ys → Distances (Yes n xs) n ys
  distances ys f = record {
    near = λ a b vs w h. f.fewest a b (length vs + 1) (walk_counts a b vs w) (omega arith);
    real = λ a b p q h. counts_walk b a (at n ys a b) (f.walked a b p q h);
  }
