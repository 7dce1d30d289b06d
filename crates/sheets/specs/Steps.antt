-- The steps of a sheet.
--
--   readers x       how many readers the rule x names
--   step_bytes s    the five bytes of a step: from, to, the rule's number, two readers
use Rattle.std.specs.Prelude.{ℕ, List, [], ◌∷◌}
use Rattle.axioms.specs.Rules.{number}
use Rattle.axioms.specs.declared.rule.Rule.{Rule}
use Rattle.axioms.specs.declared.rule.Rule.TheVariants.{ProgramOrder, ReadsFrom, Coww, Cowr, Corw, Corr}
use Rattle.sheets.specs.declared.step.Step.{Step}

abbrev pub readers : Rule → ℕ
readers ProgramOrder = 0
readers ReadsFrom = 0
readers Coww = 0
readers Cowr = 1
readers Corw = 1
readers Corr = 2

abbrev pub step_bytes : Step → List ℕ
step_bytes s = s.from ∷ s.to ∷ number s.rule ∷ s.reader ∷ s.second ∷ []
