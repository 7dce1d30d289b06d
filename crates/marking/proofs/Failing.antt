-- The first step that fails, among bytes ss that are those of the steps ts.
use Rattle.std.proofs.Common.{◌≡◌, ℕ, ◌<◌, ◌≤◌, List, [], ◌∷◌, length, Option, None, Some, MatchOption, Ok, Err, Result, subst, inl, inr, arith}
use Rattle.std.specs.List.{flat_map}
use Rattle.graph.specs.declared.event.Event.{Event}
use Rattle.graph.specs.declared.refusal.Refused.{Refused}
use Rattle.profiles.specs.Meaning.{Meaning}
use Rattle.axioms.specs.Relations.{Holds, CoherenceCycle}
use Rattle.axioms.specs.declared.rule.Rule.TheVariants.{ProgramOrder}
use Rattle.sheets.specs.declared.step.Step.{Step}
use Rattle.sheets.specs.declared.verdict.Verdict.{Verdict}
use Rattle.sheets.specs.declared.verdict.Verdict.TheVariants.{Clear}
use Rattle.sheets.specs.Steps.{step_bytes}
use Rattle.marking.specs.Marking.{StepHolds, FirstFailing, AllHold, FailingStep, HasCoherenceCycle, Given}
use Rattle.marking.specs.Passing.{Decided}

abbrev pub none : Step
none = record { from = 0; to = 0; rule = ProgramOrder; reader = 0; second = 0 }

abbrev pub HoldsFor : Meaning → List Event → List ℕ → Step → Type 0
HoldsFor m es L s = Holds m es L s.rule s.from s.to s.reader s.second

module _ (m : Meaning) (es : List Event) (L ss : List ℕ) (ts : List Step) (e : ss ≡ flat_map step_bytes ts) where
  -- the first of those that `find` goes over
  pub first_told : (r : Option ℕ) →
      MatchOption r ((k : ℕ) → 0 ≤ k → k < length ts → StepHolds m es L ss k)
      (λ k. (0 ≤ k) × (k < length ts) × (StepHolds m es L ss k → ⊥) × ((j : ℕ) → 0 ≤ j → j < k → StepHolds m es L ss j)) →
      MatchOption r (AllHold m es L (flat_map step_bytes ts) (length ts)) (FirstFailing m es L (flat_map step_bytes ts) (length ts))
  first_told None all = λ k h. subst (λ xs. StepHolds m es L xs k) e (all k (omega arith) h)
  first_told (Some k) first = record {
    within = first.1;
    fails = subst (λ xs. StepHolds m es L xs k → ⊥) e first.2;
    earlier_hold = λ j h. subst (λ xs. StepHolds m es L xs j) e (first.3 j (omega arith) h);
  }

-- All steps hold, and the verdict is clear: the answer is whether there is a coherence cycle.
module _ (m : Meaning) (es : List Event) (L ss : List ℕ) (n : ℕ) (hold : AllHold m es L ss n) (v : Verdict) (is : v ≡ Clear) where
  pub then_clear : (r : Result (Unit {0}) Refused) → Decided (CoherenceCycle m es L → ⊥) (HasCoherenceCycle m es L ∷ []) r →
      Decided (AllHold m es L ss n × (v ≡ Clear → CoherenceCycle m es L → ⊥)) (FailingStep m es L ss n ∷ Given (v ≡ Clear) (HasCoherenceCycle m es L) ∷ []) r
  then_clear (Ok x) clear = (hold, λ _. clear)
  then_clear (Err e) (inl q) = inr (λ d f. f.first.fails (hold f.place f.first.within), inl (q.0, ((is, q.1.0), q.1.1)))
  then_clear (Err e) (inr q) = let z : ◌≡◌ {A = ℕ} 0 1 = cc q.1 in absurd (omega arith)
