-- An event pushes exactly if its row has a yes.
use Rattle.std.proofs.Common.{Decides, refl, subst, rules}
use borrow.Author.Tests.{tests}
use Rattle.axioms.specs.EventTables.{Says}
use Rattle.axioms.proofs.Pushing.{row_told}
use Rattle.axioms.proofs.Any.{Among, any_among}
use Rattle.axioms.proofs.pairs.Pairs.pushes.Goals as goal

pub returns : goal.returns
returns c m es asked =
    let p = c.args.self.now in
    let told = any_among 0 c.side.result (λ b. Says p.pushed c.args.event b) _ _ c.any.result refl c.any.ensures.ran
    (λ x t q k. search (rules, tests)) in
    row_told m es p asked c.args.event c.any.result
    (subst (λ n. Decides c.any.result (Among 0 n (λ b. Says p.pushed c.args.event b))) c.side.ensures.value told)
