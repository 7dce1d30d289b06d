use Rattle.std.proofs.Common.{◌≡◌, ◌≢◌, rules, tests}
use Rattle.measures.specs.Walks.{at}
use Rattle.cycles.proofs.Looping.{tested}
use Rattle.cycles.proofs.Ranges.{any_in_Range}
use Rattle.cycles.proofs.exists.has_cycle.Goals as goal

pub returns : goal.returns
returns c =
    let n = c.args.side in
    let ys = c.settle_reach.new.cells in
    let done = c.in_ok-settle_reach.ensures in
    tested n c.args.cells.now ys done.0 done.1 c.any.result
    (any_in_Range _ _ _ c.any.result (λ v. at n ys v v ≢ 0) (λ v. at n ys v v ≡ 0) c.any.ensures.ran
    (λ x q k. search (rules, tests))
    (λ x q k. search (rules, tests)))
