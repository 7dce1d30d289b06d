use Rattle.std.proofs.Common.{◌≡◌, get_or, ◌∙◌, arith}
use Rattle.std.proofs.lemmas.List.{get_or-take}
use Rattle.searching.proofs.Picking.{order_more}
use Rattle.searching.proofs.search.write_order.Goals as goal

pub loop-place-preserved : goal.loop-place-preserved
loop-place-preserved c =
    let q = c.args.order.now in
    let i = c.loop-place.place in
    let item : c.from.result ≡ get_or q i 0 = c.from.ensures ∙ get_or-take _ q i 0 (omega arith) in
    rw item (order_more c.args.pushing.now q c.args.buffer.now i (omega arith) (omega arith) c.loop-place.buffer c.loop-place.invariant)
