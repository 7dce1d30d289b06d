use Rattle.std.proofs.Common.{rules, tests}
use Rattle.std.proofs.lemmas.Bool.{false≢true}
use Rattle.cycles.proofs.Ranges.{all_in_Range}
use Rattle.orders.specs.Orders.{Precedes, Among}
use Rattle.orders.proofs.Standing.{free_decides}
use Rattle.orders.proofs.precedence.Precedence.is_free.Goals as goal

pub returns-then-not-is_among : goal.returns-then-not-is_among
returns-then-not-is_among c =
    let b = c.args.self.now in
    let p = c.args.placed.now in
    let x = c.args.item in
    free_decides b p x (λ a. false≢true (search (rules, tests))) c.all.result
    (all_in_Range _ _ _ c.all.result (λ w. Precedes b w x → Among p w) (λ w. Precedes b w x × (Among p w → ⊥)) c.all.ensures.ran
    (λ w q k. search (rules, tests))
    (λ w q k. search (rules, tests)))
