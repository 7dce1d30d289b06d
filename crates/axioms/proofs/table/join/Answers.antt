-- One cell more gains.
use Rattle.std.proofs.Common.{◌≡◌, ◌<◌, length, take, min, get_or, arith}
use Rattle.std.proofs.lemmas.List.{get_or-take, length-take-le}
use Rattle.axioms.proofs.Joining.{joined_more}
use Rattle.axioms.proofs.table.join.Goals as goal

pub loop-at-preserved : goal.loop-at-preserved
loop-at-preserved c =
    let gains = c.args.gains.now in
    let k = c.min-both.result in
    let b = c.loop-at.at in
    let few : k ≡ min (length c.args.cells.now) (length gains) = c.min-both.ensures in
    let long = length-take-le k gains (omega arith) in
    let low : b < k = omega arith in
    joined_more c.args.cells.now gains b (get_or (take k gains) b 0) c.loop-at.cells (get_or-take k gains b 0 low) (omega arith) c.loop-at.invariant
