-- A list of the marked events is a push order.
use Rattle.axioms.proofs.Pushing.{decides_push_order}
use Rattle.axioms.proofs.pairs.Pairs.is_push_order.Goals as goal

pub returns : goal.returns
returns c m es asked =
    decides_push_order m es c.args.self.now asked c.flags.result (c.flags.ensures m es asked)
    c.args.list.now c.lists_exactly.result c.lists_exactly.ensures
