-- The joined cells are written over the row.
use Rattle.std.proofs.Common.{◌≡◌, ◌+◌, ◌-◌, ◌*◌, ◌≤◌, length, drop, refl, ◌∙◌, arith, rules, length-drop}
use Rattle.std.proofs.lemmas.List.{length-take-le}
use Rattle.axioms.proofs.Fronts.{square_fits}
use Rattle.axioms.proofs.Joining.{row_within, joined_row}
use Rattle.axioms.proofs.table.EventTable.join_row.Goals as goal

pub returns-then-a-self : goal.returns-then-a-self
returns-then-a-self c =
    let t = c.args.self.now in
    let a = c.args.row in
    let n = t.side in
    let k = a * n + n - a * n in
    let cells : length t.cells ≡ 4096 = search rules in
    let all : k ≡ n = omega arith in
    let fits : a * n + k ≤ length t.cells = omega (arith, row_within a n c.if-a-self.true, square_fits n t.small) in
    let row = length-take-le k (drop (a * n) t.cells) (omega (arith, length-drop (a * n) t.cells)) in
    joined_row t _ a k c.args.gains.now c.join.new.cells refl all fits refl (c.join.auto.cells ∙ row) c.join.ensures
