-- What judging answers. Throughout, es are the added events, m is what a profile means, and L is the list handed over; the
-- buffer held old before the call and holds new after it.
--
--   Least R ts              no closed chain of R has fewer steps than ts, and ts start at their lowest event
--   LeastOf m es L v ts     ts are least among the chains that break the axiom of the verdict v
--   Finds m es L v ts       the graph has the verdict v under L, and the steps ts show it and are least
--   Judged m es L s         s is a sheet that judging may write: its list is L, and judging finds its verdict and its steps. Which of several
--                           least cycles is shown, and by which of several rules and readers a step holds, is left to the program
--   RefusesList m es L e    L is not the pushing events, each once; or there is no source cycle and L is not lawful
--   Refuses m es L old e    e is the first refusal that applies: the buffer is below 384 bytes; then those of the list
--   Judges m es L old new r   what `judge` answers: it writes a sheet at the front of the buffer and tells its length, or it refuses and writes nothing
use Rattle.std.specs.Prelude.{◌≡◌, ℕ, ◌<◌, ◌≤◌, List, ◌++◌, length, drop, Result, MatchResult}
use Rattle.cycles.specs.Cycles.{Closed, Lowest}
use Rattle.graph.specs.declared.event.Event.{Event}
use Rattle.graph.specs.declared.refusal.Refusal.{Refusal}
use Rattle.graph.specs.declared.refusal.Refused.{Refused}
use Rattle.graph.specs.Refusals.{plain}
use Rattle.profiles.specs.Meaning.{Meaning}
use Rattle.axioms.specs.Relations as axioms
use Rattle.sheets.specs.declared.step.Step.{Step}
use Rattle.sheets.specs.declared.verdict.Verdict.{Verdict}
use Rattle.sheets.specs.declared.verdict.Verdict.TheVariants.{Clear, SourceCycle, CoherenceCycle}
use Rattle.sheets.specs.Sheets.{Sheet, encode}
use Rattle.sheets.specs.Truth.{Shows}
use Rattle.sheets.specs.WellLaid.{froms}

pub record Least (R : ℕ → ℕ → Type 0) (ts : List Step) : Type 0 where
  pub fewest : (us : List ℕ) → Closed R us → length ts ≤ length us
  pub lowest : Lowest (froms ts)

abbrev pub LeastOf : Meaning → List Event → List ℕ → Verdict → List Step → Type 0
LeastOf m es L Clear ts = Unit {0}
LeastOf m es L SourceCycle ts = Least (axioms.SourceStep es) ts
LeastOf m es L CoherenceCycle ts = Least (axioms.Co m es L) ts

pub record Finds (m : Meaning) (es : List Event) (L : List ℕ) (v : Verdict) (ts : List Step) : Type 0 where
  pub shows : Shows m es L v ts
  pub least : LeastOf m es L v ts

pub record Judged (m : Meaning) (es : List Event) (L : List ℕ) (s : Sheet) : Type 0 where
  pub pushing : axioms.PushOrder m es L
  pub order : s.order ≡ L
  pub finds : Finds m es L s.verdict s.steps

pub data RefusesList (m : Meaning) (es : List Event) (L : List ℕ) (e : Refused) : Type 0 where
  not_pushing : (axioms.PushOrder m es L → ⊥) → e ≡ plain Refusal.NotThePushingEvents → RefusesList m es L e
  not_lawful : axioms.PushOrder m es L → (axioms.SourceCycle es → ⊥) → (axioms.Lawful es L → ⊥) → e ≡ plain Refusal.NotLawful → RefusesList m es L e

pub data Refuses (m : Meaning) (es : List Event) (L old : List ℕ) (e : Refused) : Type 0 where
  no_room : length old < 384 → e ≡ plain Refusal.BufferTooShort → Refuses m es L old e
  by_list : 384 ≤ length old → RefusesList m es L e → Refuses m es L old e

pub record Wrote (m : Meaning) (es : List Event) (L old new : List ℕ) (n : ℕ) : Type 0 where
  pub room : 384 ≤ length old
  pub sheet : Sheet
  pub judged : Judged m es L sheet
  pub told : n ≡ length (encode sheet)
  pub front : new ≡ encode sheet ++ drop n old

abbrev pub Judges : Meaning → List Event → List ℕ → List ℕ → List ℕ → Result ℕ Refused → Type 0
Judges m es L old new r = MatchResult r (Wrote m es L old new) (λ e. Refuses m es L old e × (new ≡ old))
