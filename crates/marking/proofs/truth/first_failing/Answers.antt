use Rattle.std.proofs.Common.{◌≡◌, length, subst, rules}
use borrow.Author.Rules.{of_calls}
use Rattle.std.proofs.lemmas.Iterator.{first_from_Range}
use Rattle.coherence.specs.Sights.{Throughout}
use Rattle.marking.specs.Marking.{StepHolds}
use Rattle.marking.proofs.Failing.{first_told}
use Rattle.marking.proofs.truth.first_failing.Goals as goal

pub returns-clause-told : goal.returns-clause-told
returns-clause-told c m L told ts e =
    let sight = c.args.sight.now in
    let ss = c.args.layout.now.steps.now in
    let holds = StepHolds m sight.events.now L ss in
    let count : c.count-count.result ≡ length ts = c.count-count.ensures.told ts e in
    first_told m sight.events.now L ss ts e c.find.result
    (rw count at (first_from_Range _ _ _ c.find.result (λ k. holds k → ⊥) holds c.find.ensures.ran
    (λ x q k. let h : Throughout sight (λ es n M. StepHolds n es M ss k.shown.now → ⊥) = search (rules, of_calls) in
    subst (λ y. holds y → ⊥) k.shows (h m L told))
    (λ x q k. let h : Throughout sight (λ es n M. StepHolds n es M ss k.shown.now) = search (rules, of_calls) in
    (search (rules, of_calls), subst holds k.shows (h m L told)))))
