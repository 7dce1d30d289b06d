-- A yes on the diagonal is that of an event.
use Rattle.std.proofs.Common.{refl, arith, rules}
use borrow.Author.Tests.{tests}
use Rattle.axioms.specs.EventTables.{Says}
use Rattle.axioms.proofs.Any.{any_among}
use Rattle.axioms.proofs.table.EventTable.has_loop.Goals as goal

pub returns : goal.returns
returns c =
    let t = c.args.self.now in
    let told = any_among 0 t.side (λ x. Says t x x) _ _ c.any.result refl c.any.ensures.ran
    (λ x t q k. search (rules, tests)) in
    (λ e. let w = told.0 e in (w.0, w.3), λ h. told.1 (h.0, omega arith, h.1.row, h.1))
