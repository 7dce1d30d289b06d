use Rattle.sheets.proofs.Places.{step_told}
use Rattle.sheets.proofs.layout.Layout.step.Goals as goal

pub returns : goal.returns
returns c = record { value = c.step_at.ensures; told = λ ts e. step_told _ _ _ ts c.step_at.ensures e }
