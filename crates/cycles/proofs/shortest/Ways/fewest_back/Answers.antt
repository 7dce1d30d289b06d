use Rattle.std.proofs.Common.{refl, rules, tests}
use Rattle.std.proofs.lemmas.Iterator.{YieldsList-from_range, YieldsList-from_map}
use Rattle.std.proofs.lemmas.Iterator.Consumers.{min_from_yields_List, YieldsList-at}
use Rattle.measures.specs.Walks.{at}
use Rattle.cycles.proofs.Best.{fewest_kept}
use Rattle.cycles.proofs.Ranges.{least_in_range}
use Rattle.cycles.proofs.shortest.Ways.fewest_back.Goals as goal

pub returns : goal.returns
returns c =
    let n = c.args.self.now.side in
    let ys = c.args.self.now.counts.now in
    fewest_kept n ys _ c.min.result c.filter.result (λ m k. search (rules, tests)) (λ m k. search (rules, tests))
    (least_in_range (λ v. at n ys v v) n c.min.result
    (min_from_yields_List c.map.result c.min.result c.min.ensures.ran
    (YieldsList-from_map _ (λ v. at n ys v v) (YieldsList-at c.map.ensures.source (YieldsList-from_range 0 n _ refl refl)) c.map.ensures.closure (λ x r q k. search rules))))
    c.filter.ensures
