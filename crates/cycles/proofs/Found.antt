-- What the way from the nearest vertex back to itself is: a shortest cycle.
use Rattle.std.proofs.Common.{◌≡◌, ℕ, ◌+◌, ◌<◌, ◌≤◌, List, [], ◌∷◌, length, sym, ap, ◌∙◌, subst, inl, inr, arith}
use Rattle.std.specs.List.{AllByRecursion}
use Rattle.std.proofs.ByRecursion.{All-weaker}
use Rattle.std.proofs.lemmas.Bool.{cases_lt, cases_order}
use Rattle.measures.specs.Walks.{at}
use Rattle.cycles.specs.Answers.{Wrote}
use Rattle.cycles.specs.Cycles.{Walk, Closed, Distinct, NoCycle, Lowest, NotAfter, First, Shortest}
use Rattle.cycles.specs.Distances.{Distances, AllFar, Nearest, Way, Traced}
use Rattle.cycles.proofs.Walking.{leads_walk, walk_below, short_walk, turns}

module _ (R : ℕ → ℕ → Type 0) (n : ℕ) (bounds : (a b : ℕ) → R a b → (a < n) × (b < n)) (ys : List ℕ) (small : n ≤ 64) (d : Distances R n ys) where
  -- A walk of more than 64 steps goes twice through some vertex, so none is missed.
  pub no_cycle : AllFar n ys → NoCycle R
  no_cycle h a r =
      let w = leads_walk R a a r in
      let s = short_walk R n bounds a a w.0 w.1 in
      let below = (walk_below R n bounds a a s.0 s.1).0 in
      let few = s.2 in
      omega (arith, d.near a a s.0 s.1 (omega arith), h a below)

  -- By one step to w, v is at most one step farther than w.
  farther : (v w s : ℕ) → R v w → s < n → at n ys w s < 64 → at n ys v s ≤ at n ys w s + 1
  farther v w s step p h =
      let r = d.real w s (bounds v w step).1 p (omega arith) in
      let e = r.2 in
      omega (arith, d.near v s (w ∷ r.0) (step, r.1) (omega arith))

  -- Where there are more steps to go than one, a step leads to where there is one fewer.
  pub nearer : (v s m : ℕ) → v < n → s < n → 0 < m → m < 64 → at n ys v s ≡ m + 1 → (w : ℕ) × R v w × (at n ys w s ≡ m)
  nearer v s m p q some room is =
      let r = d.real v s p q (omega arith) in
      go r.0 r.1 (omega (arith, r.2))
    where
      go : (vs : List ℕ) → Walk R v vs s → length vs ≡ m → (w : ℕ) × R v w × (at n ys w s ≡ m)
      go [] x e = absurd (omega arith)
      go (w ∷ ws) x e =
          let upper = d.near w s ws x.1 (omega arith) in
          let lower = farther v w s x.0 q (omega arith) in
          (w, x.0, omega arith)

  -- Where there is one step to go, there is a step.
  pub last_step : (v s : ℕ) → v < n → s < n → at n ys v s ≡ 1 → R v s
  last_step v s p q is =
      let r = d.real v s p q (omega arith) in
      go r.0 r.1 (omega (arith, r.2))
    where
      go : (vs : List ℕ) → Walk R v vs s → length vs ≡ 0 → R v s
      go [] x e = x
      go (w ∷ ws) x e = absurd (omega arith)

  pub some_steps : (a b : ℕ) → a < n → b < n → 0 < at n ys a b
  some_steps a b p q =
      elim (cases_lt 64 (at n ys a b)) [ inl l ↦ omega arith | inr l ↦ let r = d.real a b p q l in omega (arith, r.2) ]

  module _ (s : ℕ) where
    way_walk : (v : ℕ) (ws : List ℕ) → Way R n ys s v ws → Walk R v ws s
    way_walk v [] p = p
    way_walk v (w ∷ ws) p = (p.0.step, way_walk w ws p.1)

    -- Each vertex on the way is nearer to s than the one at its start.
    way_nearer : (v m : ℕ) (ws : List ℕ) → Way R n ys s v ws → at n ys v s ≤ m → AllByRecursion (λ w. at n ys w s < m) ws
    way_nearer v m [] p h = tt
    way_nearer v m (w ∷ ws) p h =
        let e = p.0.nearer in
        let less : at n ys w s < m = omega arith in
        (less, way_nearer w m ws p.1 (omega arith))

    way_distinct : (v : ℕ) (ws : List ℕ) → Way R n ys s v ws → Distinct (v ∷ ws)
    way_distinct v [] p = (tt, tt)
    way_distinct v (w ∷ ws) p = (
      All-weaker (λ x. at n ys x s < at n ys v s) (λ x. v ≡ x → ⊥)
          (λ x h e. omega (arith, ap (λ y. at n ys y s) e))
          (w ∷ ws) (way_nearer v (at n ys v s) (w ∷ ws) p (omega arith)),
      way_distinct w ws p.1,
    )

    -- No walk of as many steps comes before the way.
    way_first : (v : ℕ) (ws us : List ℕ) → s < n → at n ys v s ≤ 64 → at n ys v s ≡ length ws + 1 →
        Way R n ys s v ws → Walk R v us s → length us ≡ length ws → NotAfter ws us
    way_first v [] us q room is p x e = tt
    way_first v (w ∷ ws) [] q room is p x e = absurd (omega arith)
    way_first v (w ∷ ws) (u ∷ us) q room is p x e =
        let one = p.0.nearer in
        let upper = d.near u s us x.1 (omega arith) in
        let lower = farther v u s x.0 q (omega arith) in
        let low : w ≤ u = p.0.lowest u x.0 (omega arith) in
        elim (cases_lt w u) [
          | inl l ↦ inl l
          | inr l ↦
              let same : u ≡ w = omega arith in
              inr (sym same, way_first w ws us q (omega arith) (omega arith) p.1 (subst (λ z. Walk R z us s) same x.1) (omega arith))
        ]

    module _ (near : Nearest n ys s) (ws : List ℕ) (way : Way R n ys s s ws) (count : length ws + 1 ≡ at n ys s s) where
      lowest : Lowest (s ∷ ws)
      lowest =
          All-weaker (λ v. (us : List ℕ) × Walk R v us v × (length us ≡ length ws)) (λ v. s ≤ v)
          (λ v back. elim (cases_lt v s) [
            | inl l ↦
                let small = near.small in
                let e = back.2 in
                absurd (omega (arith, near.first v l, d.near v v back.0 back.1 (omega arith)))
            | inr l ↦ l
          ])
          ws (turns R s ws (way_walk s ws way))

      fewest : (us : List ℕ) → Closed R us → length (s ∷ ws) ≤ length us
      fewest [] x = absurd x
      fewest (u ∷ us) x =
          elim (cases_lt (length us) (length ws)) [
            | inl l ↦
                let below = (walk_below R n bounds u u us x).0 in
                let small = near.small in
                omega (arith, near.least u below, d.near u u us x (omega arith))
            | inr l ↦ omega arith
          ]

      first : First R (s ∷ ws)
      first [] x e = absurd x
      first (u ∷ us) x e =
          let small = near.small in
          elim (cases_order s u) [
            | inr b ↦ elim b [
              | inl l ↦ inl l
              | inr l ↦ absurd (omega (arith, near.first u l, d.near u u us x (omega arith)))
            ]
            | inl same ↦
                inr (same, way_first s ws us near.below small (sym count) way (subst (λ z. Walk R z us z) (sym same) x) (omega arith))
          ]

      shortest : Shortest R (s ∷ ws)
      shortest = record {
        cycle = record { closed = way_walk s ws way; once = way_distinct s ws way };
        lowest = lowest;
        fewest = fewest;
      }

  pub wrote : (s k : ℕ) (old new : List ℕ) → Nearest n ys s → at n ys s s ≡ k → Traced R n ys s k old new → Wrote R old new k
  wrote s k old new near is t =
      let e = t.count in
      let small = near.small in
      let count : length t.between + 1 ≡ at n ys s s = e ∙ sym is in
      record {
        found = s ∷ t.between;
        count = omega arith;
        room = omega arith;
        shortest = shortest s near t.between t.way count;
        first = first s near t.between t.way count;
        front = t.front;
      }
