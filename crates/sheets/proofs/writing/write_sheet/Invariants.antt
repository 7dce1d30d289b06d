use Rattle.std.proofs.Common.{◌≡◌, ◌*◌, take}
use lib.Seq.{paste}
use Rattle.std.specs.List.{flat_map}
use Rattle.sheets.specs.Steps.{step_bytes}
use Rattle.sheets.proofs.writing.write_sheet.Given as goal

abbrev pub invariant-loop-place : goal.invariant-loop-place
invariant-loop-place l =
    l.buffer ≡ paste l.initial.buffer l.front (flat_map step_bytes (take l.place l.steps)) (l.place * 5)
