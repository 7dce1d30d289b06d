-- The marked events are the pushing ones.
use Rattle.axioms.proofs.Pushing.{front_pushing}
use Rattle.axioms.proofs.pairs.Pairs.pushing.Goals as goal

pub returns : goal.returns
returns c = record {
  few = c.collect.ensures.few;
  told = λ m es asked.
      front_pushing m es c.args.self.now asked c.flags-flags.result (c.flags-flags.ensures m es asked)
      c.args.list.now c.collect.new.list c.collect.result c.collect.ensures.told;
}
