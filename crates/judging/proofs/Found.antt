-- A cycle read off the front of a buffer.
use Rattle.std.proofs.Common.{◌≡◌, ℕ, ◌-◌, List, length, take, drop, sym, ap, ◌∙◌, subst, arith}
use Rattle.std.proofs.lemmas.List.{take_at}
use Rattle.cycles.specs.Answers.{Wrote}
use Rattle.cycles.specs.Cycles.{Closed, Shortest}

module _ (R : ℕ → ℕ → Type 0) (old new : List ℕ) (k : ℕ) (w : Wrote R old new k) where
  pub front_is : take (k - 0) new ≡ w.found
  front_is =
      let same : k - 0 ≡ k = omega arith in
      ap (λ n. take n new) same ∙ ap (take k) w.front ∙ take_at w.found (drop k old) k w.count

  pub front_long : length (take (k - 0) new) ≡ k
  front_long = ap length front_is ∙ w.count

  pub front_closed : Closed R (take (k - 0) new)
  front_closed = subst (Closed R) (sym front_is) w.shortest.cycle.closed

  pub front_shortest : Shortest R (take (k - 0) new)
  front_shortest = subst (Shortest R) (sym front_is) w.shortest
