use Rattle.std.proofs.Common.{◌≡◌, ◌≢◌, rules, tests}
use Rattle.std.proofs.lemmas.Iterator.{first_from_Range}
use Rattle.measures.specs.Walks.{at}
use Rattle.cycles.proofs.Best.{nearest_found}
use Rattle.cycles.proofs.shortest.Ways.nearest.Goals as goal

pub returns : goal.returns
returns c =
    let n = c.args.self.now.side in
    let ys = c.args.self.now.counts.now in
    let k = c.in_ok-fewest.fewest in
    nearest_found n ys k c.in_ok-fewest.ensures c.find.result
    (first_from_Range _ _ _ c.find.result (λ v. at n ys v v ≡ k) (λ v. at n ys v v ≢ k) c.find.ensures.ran
    (λ x q k. search (rules, tests)) (λ x q k. search (rules, tests)))
