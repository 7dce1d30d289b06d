-- What marking answers: the checks of a sheet's bytes bs against a graph, in their order. Throughout, es are the added events, m is what
-- a profile means, and L is what section 1 lists.
--
--   order_part bs            the entries of section 1
--   SaysOrdered bs           the sheet says that there is no source cycle: it is clear, or shows a coherence cycle
--   StepHolds m es L ss k    the step whose five bytes stand at place k of the bytes ss holds by its rule
--   FirstFailing m es L ss n k   of n steps, the one at place k is the first that does not hold
--   AllHold m es L ss n      each of n steps holds
--   Given P C                the check C, made only where P holds
--   checks m es bs           what may be wrong, in this order: what is wrong with the layout, and then
--     NotPushing               the list is not a push order
--     HasSourceCycle           there is a source cycle, though the sheet says that there is none
--     Unlawful                 the list is not lawful, under the same verdicts
--     FailingStep              a step does not hold by its rule; the first of these counts
--     HasCoherenceCycle        there is a coherence cycle, though the sheet is clear
--   Marks m es bs r          r is what the checks answer
use Rattle.std.specs.Prelude.{◌≡◌, ℕ, ◌+◌, ◌<◌, ◌⊎◌, List, [], ◌∷◌, ◌++◌, length, Result}
use Rattle.std.specs.List.{between}
use Rattle.graph.specs.declared.event.Event.{Event}
use Rattle.graph.specs.declared.refusal.Refused.{Refused}
use Rattle.graph.specs.declared.refusal.Refusal.TheVariants.{NotThePushingEvents, NotLawful, StepFails, WrongVerdict}
use Rattle.graph.specs.Refusals.{plain}
use Rattle.profiles.specs.Meaning.{Meaning}
use Rattle.axioms.specs.Relations as axioms
use Rattle.sheets.specs.declared.step.Step.{Step}
use Rattle.sheets.specs.declared.verdict.Verdict.TheVariants.{Clear, CoherenceCycle}
use Rattle.sheets.specs.Checks.{FirstOf}
use Rattle.sheets.specs.Entries.{Stands}
use Rattle.sheets.specs.Layouts as layouts
use Rattle.sheets.specs.Layouts.{Says, steps_at, step_count, step_part}

abbrev pub order_part : List ℕ → List ℕ
order_part bs = between 2 (steps_at bs) bs

abbrev pub SaysOrdered : List ℕ → Type 0
SaysOrdered bs = Says bs Clear ⊎ Says bs CoherenceCycle

pub record StepHolds (m : Meaning) (es : List Event) (L ss : List ℕ) (k : ℕ) : Type 0 where
  pub step : Step
  pub stands : Stands ss k step
  pub holds : axioms.Holds m es L step.rule step.from step.to step.reader step.second

pub record FirstFailing (m : Meaning) (es : List Event) (L ss : List ℕ) (n k : ℕ) : Type 0 where
  pub within : k < n
  pub fails : StepHolds m es L ss k → ⊥
  pub earlier_hold : (j : ℕ) → j < k → StepHolds m es L ss j

abbrev pub AllHold : Meaning → List Event → List ℕ → List ℕ → ℕ → Type 0
AllHold m es L ss n = (k : ℕ) → k < n → StepHolds m es L ss k

abbrev pub NotPushing : Meaning → List Event → List ℕ → Refused → Type 0
NotPushing m es L e = (axioms.PushOrder m es L → ⊥) × (e ≡ plain NotThePushingEvents)

abbrev pub HasSourceCycle : List Event → Refused → Type 0
HasSourceCycle es e = axioms.SourceCycle es × (e ≡ plain WrongVerdict)

abbrev pub Unlawful : List Event → List ℕ → Refused → Type 0
Unlawful es L e = (axioms.Lawful es L → ⊥) × (e ≡ plain NotLawful)

pub record FailingStep (m : Meaning) (es : List Event) (L ss : List ℕ) (n : ℕ) (e : Refused) : Type 0 where
  pub place : ℕ
  pub first : FirstFailing m es L ss n place
  pub told : e ≡ record { refusal = StepFails; section = 2; entry = place + 1 }

abbrev pub HasCoherenceCycle : Meaning → List Event → List ℕ → Refused → Type 0
HasCoherenceCycle m es L e = axioms.CoherenceCycle m es L × (e ≡ plain WrongVerdict)

abbrev pub Given : Type 0 → (Refused → Type 0) → Refused → Type 0
Given P C e = P × C e

-- the checks behind those of the layout
abbrev pub truth_checks : Meaning → List Event → List ℕ → List ℕ → List (Refused → Type 0)
truth_checks m es bs L =
    NotPushing m es L ∷
    Given (SaysOrdered bs) (HasSourceCycle es) ∷
    Given (SaysOrdered bs) (Unlawful es L) ∷
    FailingStep m es L (step_part bs) (step_count bs) ∷
    Given (Says bs Clear) (HasCoherenceCycle m es L) ∷ []

abbrev pub checks : Meaning → List Event → List ℕ → List (Refused → Type 0)
checks m es bs = layouts.checks (length es + 8) bs ++ truth_checks m es bs (order_part bs)

unfoldable pub Marks : Meaning → List Event → List ℕ → Result (Unit {0}) Refused → Type 0
Marks m es bs r = FirstOf (checks m es bs) r
