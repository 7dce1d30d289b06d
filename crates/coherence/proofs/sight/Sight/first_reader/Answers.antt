use Rattle.std.proofs.Common.{ℕ, ◌+◌, length, rules}
use borrow.Author.Tests.{tests}
use Rattle.std.proofs.lemmas.Iterator.{first_from_Range}
use Rattle.axioms.specs.Relations.{Holds}
use Rattle.coherence.proofs.FirstRule.{lowest_below}
use Rattle.coherence.proofs.sight.Sight.first_reader.Goals as goal

pub returns : goal.returns
returns c m L told =
    let es = c.args.self.now.events.now in
    let P : ℕ → Type 0 = λ (x : ℕ). Holds m es L c.args.rule c.args.p c.args.q x 255 in
    lowest_below P c.in_ok-side.field-0 (length es + 8) (search rules) c.find.result
    (first_from_Range _ _ _ c.find.result P (λ x. P x → ⊥) c.find.ensures.ran (λ x q k. search (rules, tests) fits 30000) (λ x q k. search (rules, tests) fits 30000))
