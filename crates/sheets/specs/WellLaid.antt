-- Sheets that are well laid out, and what reading one tells. present is how many events the graph has.
--
--   WellNamed present v t    the step t names present events and a rule of the verdict v, with the readers that the rule names
--   froms, tos               where the steps start, and where they lead
--   turned xs                xs with its first at the end
--   WellLaid present s       the steps are those of one cycle, which goes round once, or there are none and the sheet is clear
--   Told present bs l        bs are the bytes of one sheet alone, which is well laid out and which l tells
--   Layouts present bs r     what reading a layout answers: the sheet, or that bs are the bytes of no such sheet
use Rattle.std.specs.Prelude.{◌≡◌, ℕ, ◌<◌, List, [], ◌∷◌, ◌++◌, map, length, Result, MatchResult}
use Rattle.std.specs.List.{flat_map, AllByRecursion}
use Rattle.cycles.specs.Cycles.{Distinct}
use Rattle.graph.specs.declared.refusal.Refused.{Refused}
use Rattle.sheets.specs.declared.layout.Layout.{Layout}
use Rattle.sheets.specs.declared.step.Step.{Step}
use Rattle.sheets.specs.declared.verdict.Verdict.{Verdict}
use Rattle.sheets.specs.Faults.{ReaderAt}
use Rattle.sheets.specs.Layouts.{RightCount}
use Rattle.sheets.specs.Sheets.{Sheet, encode}
use Rattle.sheets.specs.Steps.{readers, step_bytes}
use Rattle.sheets.specs.Verdicts.{Belongs}

pub record WellNamed (present : ℕ) (v : Verdict) (t : Step) : Type 0 where
  pub start : t.from < present
  pub end : t.to < present
  pub belongs : Belongs v t.rule
  pub first_reader : ReaderAt present (readers t.rule) 0 t.reader
  pub second_reader : ReaderAt present (readers t.rule) 1 t.second

abbrev pub froms : List Step → List ℕ
froms = map (λ t. t.from)

abbrev pub tos : List Step → List ℕ
tos = map (λ t. t.to)

abbrev pub turned : List ℕ → List ℕ
turned [] = []
turned (x ∷ xs) = xs ++ x ∷ []

pub record WellLaid (present : ℕ) (s : Sheet) : Type 0 where
  pub counted : RightCount s.verdict (length s.steps)
  pub named : AllByRecursion (WellNamed present s.verdict) s.steps
  -- each step leads where the next starts, and the last where the first does
  pub closed : tos s.steps ≡ turned (froms s.steps)
  pub once : Distinct (froms s.steps)

pub record Told (present : ℕ) (bs : List ℕ) (l : Layout) : Type 0 where
  pub sheet : Sheet
  pub encoded : bs ≡ encode sheet
  pub only : (t : Sheet) → bs ≡ encode t → t ≡ sheet
  pub well_laid : WellLaid present sheet
  pub verdict : l.verdict ≡ sheet.verdict
  pub order : l.order.now ≡ sheet.order
  pub steps : l.steps.now ≡ flat_map step_bytes sheet.steps

abbrev pub Layouts : ℕ → List ℕ → Result Layout Refused → Type 0
Layouts present bs r = MatchResult r (Told present bs) (λ _. (s : Sheet) → bs ≡ encode s → WellLaid present s → ⊥)
