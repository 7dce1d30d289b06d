-- A closed chain of events and the steps laid out from it.
use Rattle.std.proofs.Common.{ℕ, ◌+◌, ◌<◌, cond, List, length, get_or, sym, subst, inl, inr, arith}
use Rattle.std.proofs.lemmas.Bool.{cases_lt, lt-ltb, le-ltb}
use Rattle.cycles.specs.Cycles.{Closed}
use Rattle.cycles.proofs.Chains.{closed_step, closed_last}
use Rattle.judging.specs.Laying.{next}

-- Each event of a closed chain has a step to the next.
pub closed_next : (R : ℕ → ℕ → Type 0) (vs : List ℕ) → Closed R vs → (i : ℕ) → i < length vs → R (get_or vs i 0) (next vs i)
closed_next R vs closed i h =
    elim (cases_lt (i + 1) (length vs)) [
      | inl l ↦ subst (λ b. R (get_or vs i 0) (cond b (get_or vs (i + 1) 0) (get_or vs 0 0))) (sym (lt-ltb (i + 1) (length vs) l)) (closed_step R vs closed i l)
      | inr l ↦ subst (λ b. R (get_or vs i 0) (cond b (get_or vs (i + 1) 0) (get_or vs 0 0))) (sym (le-ltb (i + 1) (length vs) l)) (closed_last R vs closed i (omega arith))
    ]
