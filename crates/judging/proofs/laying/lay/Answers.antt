use Rattle.std.proofs.Common.{get_or, sym, subst}
use Rattle.judging.proofs.Chains.{closed_next}
use Rattle.judging.proofs.laying.lay.Goals as goal

pub name-rule-requires : goal.name-rule-requires
name-rule-requires g c =
    let vs = c.args.cycle.now in
    let i = c.loop-place.place in
    subst (g.N.Namer.related c.args.namer.now (get_or vs i 0)) (sym c.next_of-to.ensures)
    (closed_next (g.N.Namer.related c.args.namer.now) vs c.requires.closed i c.loop-place-test.true)
