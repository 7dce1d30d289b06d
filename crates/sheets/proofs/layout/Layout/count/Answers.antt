use Rattle.std.proofs.Common.{refl}
use Rattle.sheets.proofs.Places.{count_told}
use Rattle.sheets.proofs.layout.Layout.count.Goals as goal

pub returns : goal.returns
returns c = record { value = refl; told = λ ts e. count_told _ ts e }
