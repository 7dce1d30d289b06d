-- Sheets that are true of a graph. Throughout, es are the added events, m is what a profile means, and L is a list of events.
--
--   Sound m es L v t     the step t holds by its rule, which belongs to the verdict v, with its readers; a reader that the
--                        rule does not name is 255
--   Chain m es L v ts    ts are the steps of a closed chain: sound steps, at least one, each leads where the next starts and the
--                        last where the first does, and no event starts two
--   Ordered es L         there is no source cycle, and L is lawful
--   Shows m es L v ts    the graph has the verdict v under L, and the steps ts show it: a closed chain of program order and
--                        reads-from; or, where the graph is ordered, a closed chain of coherence; or no steps, as there is no such chain
--   TrueOf m es s        the sheet s is true of the graph: its list is a push order, under which its steps show its verdict
use Rattle.std.specs.Prelude.{◌≡◌, ℕ, ◌<◌, List, [], length}
use Rattle.std.specs.List.{AllByRecursion}
use Rattle.cycles.specs.Cycles.{Distinct}
use Rattle.graph.specs.declared.event.Event.{Event}
use Rattle.profiles.specs.Meaning.{Meaning}
use Rattle.axioms.specs.Relations as axioms
use Rattle.axioms.specs.Rules.{Unused}
use Rattle.sheets.specs.declared.step.Step.{Step}
use Rattle.sheets.specs.declared.verdict.Verdict.{Verdict}
use Rattle.sheets.specs.declared.verdict.Verdict.TheVariants.{Clear, SourceCycle, CoherenceCycle}
use Rattle.sheets.specs.Sheets.{Sheet}
use Rattle.sheets.specs.Verdicts.{Belongs}
use Rattle.sheets.specs.WellLaid.{froms, tos, turned}

pub record Sound (m : Meaning) (es : List Event) (L : List ℕ) (v : Verdict) (t : Step) : Type 0 where
  pub belongs : Belongs v t.rule
  pub holds : axioms.Holds m es L t.rule t.from t.to t.reader t.second
  pub unused : Unused t.rule t.reader t.second

pub record Chain (m : Meaning) (es : List Event) (L : List ℕ) (v : Verdict) (ts : List Step) : Type 0 where
  pub some : 0 < length ts
  pub sound : AllByRecursion (Sound m es L v) ts
  pub closed : tos ts ≡ turned (froms ts)
  pub once : Distinct (froms ts)

pub record Ordered (es : List Event) (L : List ℕ) : Type 0 where
  pub sources : axioms.SourceCycle es → ⊥
  pub lawful : axioms.Lawful es L

abbrev pub Shows : Meaning → List Event → List ℕ → Verdict → List Step → Type 0
Shows m es L Clear ts = Ordered es L × ((axioms.CoherenceCycle m es L → ⊥) × (ts ≡ []))
Shows m es L SourceCycle ts = Chain m es L SourceCycle ts
Shows m es L CoherenceCycle ts = Ordered es L × Chain m es L CoherenceCycle ts

pub record TrueOf (m : Meaning) (es : List Event) (s : Sheet) : Type 0 where
  pub pushing : axioms.PushOrder m es s.order
  pub shows : Shows m es s.order s.verdict s.steps
