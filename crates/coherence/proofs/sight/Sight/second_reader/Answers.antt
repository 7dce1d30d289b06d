use Rattle.std.proofs.Common.{ℕ, ◌+◌, length, rules}
use borrow.Author.Tests.{tests}
use Rattle.std.proofs.lemmas.Iterator.{first_from_Range}
use Rattle.axioms.specs.Relations.{Holds}
use Rattle.axioms.specs.declared.rule.Rule.TheVariants.{Corr}
use Rattle.coherence.proofs.FirstRule.{lowest_below}
use Rattle.coherence.proofs.sight.Sight.second_reader.Goals as goal

pub returns : goal.returns
returns c m L told =
    let es = c.args.self.now.events.now in
    let P : ℕ → Type 0 = Holds m es L Corr c.args.p c.args.q c.args.reader in
    lowest_below P c.in_ok-side.field-0 (length es + 8) (search rules) c.find.result
    (first_from_Range _ _ _ c.find.result P (λ x. P x → ⊥) c.find.ensures.ran (λ x q k. search (rules, tests)) (λ x q k. search (rules, tests)))
