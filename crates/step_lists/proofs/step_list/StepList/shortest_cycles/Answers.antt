use Rattle.std.proofs.Common.{◌≡◌, ◌<◌, ◌≤◌, None, MatchOption, arith, rules}
use Rattle.measures.specs.Walks.{at}
use Rattle.step_lists.proofs.Filled.{filled, round_at}
use Rattle.step_lists.proofs.step_list.StepList.shortest_cycles.Goals as goal

pub returns : goal.returns
returns c = λ v h.
    let ys = c.settle_steps.new.cells in
    round_at c.args.self.now.cells ys c.in-Ok.ensures.1 v h _
    (filled _ c.from_fn.result None (λ k r. MatchOption r (64 < at 64 ys k k) (λ m. (m ≡ at 64 ys k k) × (m ≤ 64)))
    (λ x y q k. search rules)
    0 64 c.from_fn.ensures.items.each v v h (omega arith))
