use Rattle.std.proofs.Common.{◌≡◌, true, Some, subst, rules, tests}
use Rattle.std.proofs.lemmas.Iterator.{first_from_Range}
use Rattle.measures.specs.Reach.{yes}
use Rattle.measures.specs.Walks.{at}
use Rattle.cycles.proofs.Choosing.{Chosen, chosen}
use Rattle.cycles.proofs.shortest.Ways.onward.Goals as goal

pub unwrap-requires : goal.unwrap-requires
unwrap-requires c =
    let n = c.args.self.now.side in
    let xs = c.args.self.now.steps.now in
    let ys = c.args.self.now.counts.now in
    let found = chosen n xs ys c.args.from c.args.to c.args.left c.requires.from c.requires.there c.find.result
    (first_from_Range _ _ _ c.find.result
    (λ w. (yes (at n xs c.args.from w) ≡ true) × (at n ys w c.args.to ≡ c.args.left))
    (λ w. yes (at n xs c.args.from w) ≡ true → at n ys w c.args.to ≡ c.args.left → ⊥)
    c.find.ensures.ran (λ x q k. search (rules, tests)) (λ x q k. search (rules, tests))) in
    let is : c.find.result ≡ Some found.0 = found.1 in
    search rules

pub returns : goal.returns
returns c =
    let n = c.args.self.now.side in
    let xs = c.args.self.now.steps.now in
    let ys = c.args.self.now.counts.now in
    let found = chosen n xs ys c.args.from c.args.to c.args.left c.requires.from c.requires.there c.find.result
    (first_from_Range _ _ _ c.find.result
    (λ w. (yes (at n xs c.args.from w) ≡ true) × (at n ys w c.args.to ≡ c.args.left))
    (λ w. yes (at n xs c.args.from w) ≡ true → at n ys w c.args.to ≡ c.args.left → ⊥)
    c.find.ensures.ran (λ x q k. search (rules, tests)) (λ x q k. search (rules, tests))) in
    let same : found.0 ≡ c.unwrap.result = cc (found.1, c.unwrap.ensures) in
    let w = subst (Chosen n xs ys c.args.from c.args.to c.args.left) same found.2 in
    record { step = w.step; nearer = w.nearer; lowest = w.lowest }
