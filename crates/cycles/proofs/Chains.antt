-- Closed chains: where there is one, some vertex leads to itself, and the other way round; and their steps by places.
use Rattle.std.proofs.Common.{◌≡◌, ℕ, zero, suc, ◌+◌, ◌<◌, List, [], ◌∷◌, length, get_or, drop, ap, ◌∙◌, add-one, arith}
use Rattle.std.specs.List.{AllByRecursion}
use Rattle.std.proofs.ByRecursion.{All-from_get_or}
use Rattle.std.proofs.lemmas.List.{get_or_append_left}
use Rattle.cycles.specs.Answers.{Wrote}
use Rattle.cycles.specs.Cycles.{Walk, Closed, Distinct, Cycle, HasCycle}
use Rattle.cycles.proofs.Walking.{leads_walk, walk_leads, walk_below, shorten}

module _ (R : ℕ → ℕ → Type 0) where
  pub closed_some : (vs : List ℕ) → Closed R vs → 0 < length vs
  closed_some [] p = absurd p
  closed_some (v ∷ vs) p = omega arith

  pub closed_has : (vs : List ℕ) → Closed R vs → HasCycle R
  closed_has [] p = absurd p
  closed_has (v ∷ vs) p = (v, walk_leads R v v vs p)

  pub has_cycle : HasCycle R → (vs : List ℕ) × Cycle R vs
  has_cycle h =
      let w = leads_walk R h.0 h.0 h.1 in
      let s = shorten R h.0 h.0 w.0 w.1 in
      (h.0 ∷ s.mid, record { closed = s.walk; once = s.distinct })

  pub closed_below : (n : ℕ) → ((a b : ℕ) → R a b → (a < n) × (b < n)) → (vs : List ℕ) → Closed R vs → AllByRecursion (λ v. v < n) vs
  closed_below n bounds [] p = absurd p
  closed_below n bounds (v ∷ vs) p = walk_below R n bounds v v vs p

  walk_step : (a b : ℕ) (vs : List ℕ) → Walk R a vs b → (j : ℕ) → j < length vs → R (get_or (a ∷ vs) j 0) (get_or vs j 0)
  walk_step a b [] p j h = absurd (omega arith)
  walk_step a b (v ∷ vs) p zero h = p.0
  walk_step a b (v ∷ vs) p (suc j) h = walk_step v b vs p.1 j (omega arith)

  walk_last : (a b : ℕ) (vs : List ℕ) → Walk R a vs b → R (get_or (a ∷ vs) (length vs) 0) b
  walk_last a b [] p = p
  walk_last a b (v ∷ vs) p = walk_last v b vs p.1

  -- Each vertex has a step to the next ..
  pub closed_step : (vs : List ℕ) → Closed R vs → (j : ℕ) → j + 1 < length vs → R (get_or vs j 0) (get_or vs (j + 1) 0)
  closed_step [] p j h = absurd p
  closed_step (v ∷ vs) p j h = rw (add-one j) (walk_step v v vs p j (omega arith))

  -- .. and the last to the first.
  pub closed_last : (vs : List ℕ) → Closed R vs → (j : ℕ) → j + 1 ≡ length vs → R (get_or vs j 0) (get_or vs 0 0)
  closed_last [] p j e = absurd p
  closed_last (v ∷ vs) p j e = let same : length vs ≡ j = omega arith in rw same at (walk_last v v vs p)

  walk_by_places : (a b : ℕ) (vs : List ℕ) → ((j : ℕ) → j < length vs → R (get_or (a ∷ vs) j 0) (get_or vs j 0)) → R (get_or (a ∷ vs) (length vs) 0) b → Walk R a vs b
  walk_by_places a b [] steps end = end
  walk_by_places a b (v ∷ vs) steps end = (steps 0 (omega arith), walk_by_places v b vs (λ j h. steps (suc j) (omega arith)) end)

  pub closed_by_places : (vs : List ℕ) → 0 < length vs →
      ((j : ℕ) → j + 1 < length vs → R (get_or vs j 0) (get_or vs (j + 1) 0)) →
      ((j : ℕ) → j + 1 ≡ length vs → R (get_or vs j 0) (get_or vs 0 0)) → Closed R vs
  closed_by_places [] some steps end = absurd (omega arith)
  closed_by_places (v ∷ vs) some steps end =
      walk_by_places v v vs (λ j h. rw (add-one j) at (steps j (omega arith))) (end (length vs) (omega arith))

  -- What `shortest_cycle` wrote reads as the cycle.
  pub wrote_reads : (old new : List ℕ) (k : ℕ) (w : Wrote R old new k) (j : ℕ) → j < k → get_or new j 0 ≡ get_or w.found j 0
  wrote_reads old new k w j h =
      ap (λ l. get_or l j 0) w.front ∙ get_or_append_left w.found (drop k old) 0 j (omega (arith, w.count))

pub distinct_by_places : (vs : List ℕ) → ((i j : ℕ) → i < j → j < length vs → get_or vs i 0 ≡ get_or vs j 0 → ⊥) → Distinct vs
distinct_by_places [] h = tt
distinct_by_places (v ∷ vs) h = (
  All-from_get_or (λ w. v ≡ w → ⊥) vs 0 (λ j l. h 0 (suc j) (omega arith) (omega arith)),
  distinct_by_places vs (λ i j l m. h (suc i) (suc j) (omega arith) (omega arith)),
)
