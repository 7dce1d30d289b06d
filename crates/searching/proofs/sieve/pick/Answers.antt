use Rattle.std.proofs.Common.{get_or, ap, ◌∙◌}
use Rattle.searching.proofs.Picking.{pick_more}
use Rattle.searching.proofs.sieve.pick.Goals as goal

pub loop-place-preserved : goal.loop-place-preserved
loop-place-preserved c =
    let E = c.args.pushing.now in
    let event = c.in_ok-list.ensures.lookup.3.1 0 ∙ ap (λ x. get_or E x 0) c.from.ensures in
    rw event (pick_more E c.args.placed.now c.loop-place.place c.loop-place-test.true c.requires c.loop-place.list c.loop-place.invariant)
