-- Sheets and their bytes.
--
--   Sheet      a verdict, a push order and the steps of a cycle
--   encode s   the bytes of a sheet: the verdict's number, then the push order and the steps, each after its count
use Rattle.std.specs.Prelude.{ℕ, List, ◌∷◌, ◌++◌, length}
use Rattle.std.specs.List.{flat_map}
use Rattle.sheets.specs.declared.step.Step.{Step}
use Rattle.sheets.specs.declared.verdict.Verdict.{Verdict}
use Rattle.sheets.specs.Steps.{step_bytes}
use Rattle.sheets.specs.Verdicts.{number}

pub record Sheet : Type 0 where
  pub verdict : Verdict
  pub order : List ℕ
  pub steps : List Step

unfoldable pub encode : Sheet → List ℕ
encode s =
    (number s.verdict ∷ length s.order ∷ s.order) ++ (length s.steps ∷ flat_map step_bytes s.steps)
