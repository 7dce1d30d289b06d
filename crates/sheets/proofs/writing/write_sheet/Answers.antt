use Rattle.std.proofs.Common.{◌+◌, ◌*◌, length, refl, ◌∙◌, ⊎_elim, arith}
use Rattle.sheets.proofs.Fronts.{one_step_more, wrote, front_head}
use Rattle.sheets.proofs.writing.write_sheet.Goals as goal

pub loop-place-preserved : goal.loop-place-preserved
loop-place-preserved c =
    let order = c.args.order.now in
    let ss = c.args.steps.now in
    let head = front_head c.number.result (length order) (length ss) order c.args.buffer.now c.copy_from_slice.new.self refl
    c.copy_from_slice.ensures.after (omega arith) in
    one_step_more _ c.args.buffer.now _ c.loop-place.buffer c.copy_from_slice-in-loop-place.new.self
    (2 + length order + 1) (2 + length order + 1 + c.loop-place.place * 5) c.loop-place.place ss _ head c.loop-place-test.true
    refl c.loop-place.invariant (c.copy_from_slice-in-loop-place.ensures.after ∙ c.bytes.ensures)

pub returns : goal.returns
returns c =
    let order = c.args.order.now in
    let ss = c.args.steps.now in
    let head = front_head c.number.result (length order) (length ss) order c.args.buffer.now c.copy_from_slice.new.self refl
    c.copy_from_slice.ensures.after (omega arith) in
    wrote _ c.args.buffer.now _ c.loop-place.buffer c.number.result _ c.loop-place.place
    (⊎_elim (λ h. omega arith) (⊎_elim (λ h. omega arith) (λ h. omega arith)))
    c.number.ensures head (omega arith) (omega arith) c.loop-place.invariant
