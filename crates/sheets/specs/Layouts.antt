-- The layout of a sheet's bytes bs, where present is how many events the graph has.
--
--   at s k                  the refusal of a broken layout, at entry k of section s
--   Says bs v               the verdict byte is that of v
--   steps_at bs             where section 2 begins, with its count
--   end_at bs               where section 2 ends
--   step_count bs           the count of section 2
--   step_part bs            the entries of section 2
--   RightCount v n          a sheet of the verdict v can have n steps: none if it is clear, and else at least one
--   checks present bs       what may be wrong, in this order:
--     BadVerdict              the verdict byte is missing or above 2
--     CutIn s start size      the bytes end inside the section s, which begins at start
--     WrongCount              the count of the steps is wrong for the verdict
--     FaultyStep              a step is faulty; the first of these counts
--     BytesBehind             bytes follow the sheet
--   Laid present bs r       what the checks answer
use Rattle.std.specs.Prelude.{◌≡◌, ℕ, ◌+◌, ◌<◌, ◌⊎◌, List, [], ◌∷◌, length, Result, slice_index}
use Rattle.std.specs.List.{between}
use Rattle.graph.specs.declared.refusal.Refused.{Refused}
use Rattle.graph.specs.declared.refusal.Refusal.TheVariants.{BadLayout}
use Rattle.sections.specs.declared.Cut.{Cut}
use Rattle.sections.specs.Sections.{count, entry_end, Ended, entry_number}
use Rattle.sheets.specs.declared.layout.Layout.{Layout}
use Rattle.sheets.specs.declared.verdict.Verdict.{Verdict}
use Rattle.sheets.specs.declared.verdict.Verdict.TheVariants.{Clear, SourceCycle, CoherenceCycle}
use Rattle.sheets.specs.Checks.{FirstOf}
use Rattle.sheets.specs.Faults.{FirstFault}
use Rattle.sheets.specs.Verdicts.{number}

abbrev pub at : ℕ → ℕ → Refused
at s k = record { refusal = BadLayout; section = s; entry = k }

abbrev pub Says : List ℕ → Verdict → Type 0
Says bs v = number v ≡ slice_index bs 0

abbrev pub steps_at : List ℕ → ℕ
steps_at bs = entry_end 1 1 (count bs 1)

abbrev pub step_count : List ℕ → ℕ
step_count bs = count bs (steps_at bs)

abbrev pub end_at : List ℕ → ℕ
end_at bs = entry_end (steps_at bs) 5 (step_count bs)

abbrev pub step_part : List ℕ → List ℕ
step_part bs = between (steps_at bs + 1) (end_at bs) bs

abbrev pub RightCount : Verdict → ℕ → Type 0
RightCount Clear n = n ≡ 0
RightCount SourceCycle n = 0 < n
RightCount CoherenceCycle n = 0 < n

abbrev pub BadVerdict : List ℕ → Refused → Type 0
BadVerdict bs e = ((length bs ≡ 0) ⊎ (2 < slice_index bs 0)) × (e ≡ at 0 0)

abbrev pub CutIn : List ℕ → ℕ → ℕ → ℕ → Refused → Type 0
CutIn bs s start size e = (c : Cut) × (Ended bs start size c × (e ≡ at s (entry_number c)))

pub record WrongCount (bs : List ℕ) (e : Refused) : Type 0 where
  pub verdict : Verdict
  pub says : Says bs verdict
  pub wrong : RightCount verdict (step_count bs) → ⊥
  pub told : e ≡ at 2 0

pub record FaultyStep (present : ℕ) (bs : List ℕ) (e : Refused) : Type 0 where
  pub verdict : Verdict
  pub says : Says bs verdict
  pub place : ℕ
  pub first : FirstFault present verdict (step_count bs) (step_part bs) place
  pub told : e ≡ at 2 (place + 1)

abbrev pub BytesBehind : List ℕ → Refused → Type 0
BytesBehind bs e = (end_at bs < length bs) × (e ≡ at 0 0)

abbrev pub checks : ℕ → List ℕ → List (Refused → Type 0)
checks present bs =
    BadVerdict bs ∷ CutIn bs 1 1 1 ∷ CutIn bs 2 (steps_at bs) 5 ∷ WrongCount bs ∷ FaultyStep present bs ∷ BytesBehind bs ∷ []

unfoldable pub Laid : ℕ → List ℕ → Result Layout Refused → Type 0
Laid present bs r = FirstOf (checks present bs) r
