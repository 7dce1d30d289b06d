use Rattle.std.proofs.Common.{refl, ◌∙◌}
use Rattle.marker.proofs.Performing.{one_more}
use Rattle.marker.proofs.entries.perform_all.Goals as goal

pub loop-entry-preserved : goal.loop-entry-preserved
loop-entry-preserved c = (
  c.perform-entry.ensures.leaves.lent ∙ c.loop-entry.invariant.0,
  λ hs holds. one_more _ _ _ _ _ hs (c.loop-entry.invariant.1 hs holds) c.loop-entry-test.true c.perform-entry.new.self c.perform-entry.result _ refl
      c.perform-entry.ensures.told c.perform-entry.ensures.slice c.perform-entry.ensures.leaves.len,
)
