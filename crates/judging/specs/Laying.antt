-- The steps of a closed chain of events, laid out one after the other.
--
--   SourceNamed es p q n    n names the step from p to q: by program order or reads-from, which holds
--   SomeCo s p q            a step of coherence leads from p to q, for some profile and list whose visibility the sight s tells
--   next vs i               the event after place i of vs, and behind the last the first
--   step p q n              the step from p to q by the name n
--   LaidAt N vs x i         x is the step from place i of vs, named as N says
--   steps_of s              the steps that s has
--   Laid N vs s             the steps of s are those of the chain vs, one from each of its events
use Rattle.std.specs.Prelude.{◌≡◌, ℕ, ◌+◌, ◌<◌, ◌≤◌, false, cond, List, length, take, nat_lt, slice_index, slice_index_or}
use Rattle.graph.specs.declared.event.Event.{Event}
use Rattle.profiles.specs.Meaning.{Meaning}
use Rattle.coherence.specs.declared.naming.NamedStep.{NamedStep}
use Rattle.axioms.specs.declared.rule.Rule.{Rule}
use Rattle.coherence.specs.declared.sight.Sight.{Sight}
use Rattle.axioms.specs.Relations.{Holds, Co}
use Rattle.axioms.specs.Rules.{is_coherence, Unused}
use Rattle.coherence.specs.Visibility.{Told}
use Rattle.sheets.specs.declared.step.Step.{Step}
use Rattle.judging.specs.declared.steps.Steps.{Steps}

pub record SourceNamed (es : List Event) (p q : ℕ) (n : NamedStep) : Type 0 where
  pub source : is_coherence n.rule ≡ false
  pub holds : (m : Meaning) (L : List ℕ) → Holds m es L n.rule p q n.reader n.second
  pub unused : Unused n.rule n.reader n.second

pub record SomeCo (s : Sight) (p q : ℕ) : Type 0 where
  pub meaning : Meaning
  pub list : List ℕ
  pub told : Told meaning s.events.now list s.leads.now
  pub step : Co meaning s.events.now list p q

abbrev pub next : List ℕ → ℕ → ℕ
next vs i = cond (nat_lt (i + 1) (length vs)) (slice_index vs (i + 1)) (slice_index vs 0)

abbrev pub name_of : Step → NamedStep
name_of x = record { rule = x.rule; reader = x.reader; second = x.second }

-- what an absent place reads as
abbrev pub no_step : Step
no_step = record { from = 0; to = 0; rule = Rule.ProgramOrder; reader = 0; second = 0 }

pub record LaidAt (N : ℕ → ℕ → NamedStep → Type 0) (vs : List ℕ) (x : Step) (i : ℕ) : Type 0 where
  pub from : x.from ≡ slice_index vs i
  pub to : x.to ≡ next vs i
  pub named : N (slice_index vs i) (next vs i) (name_of x)

abbrev pub steps_of : Steps → List Step
steps_of s = take s.count s.laid

pub record Laid (N : ℕ → ℕ → NamedStep → Type 0) (vs : List ℕ) (s : Steps) : Type 0 where
  pub count : s.count ≡ length vs
  pub room : length vs ≤ length s.laid
  pub each : (i : ℕ) → i < length vs → LaidAt N vs (slice_index_or s.laid i no_step) i
