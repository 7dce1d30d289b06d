use Rattle.std.proofs.Common.{◌≡◌, arith, rules, tests}
use Rattle.std.proofs.lemmas.Iterator.{YieldsList-from_range, cases_from_any}
use Rattle.sheets.specs.Entries.{from}
use Rattle.axioms.proofs.Any.{decided_below}
use Rattle.sheets.proofs.faults.starts_where_another_did.Goals as goal

pub returns : goal.returns
returns c =
    let ss = c.args.steps.now in
    let k = c.args.place in
    decided_below k c.any.result (λ j. from ss j ≡ from ss k)
    (cases_from_any _ _ c.any.result (λ j. from ss j ≡ from ss k) (λ j. from ss j ≡ from ss k → ⊥) c.any.ensures.ran (YieldsList-from_range 0 k k (search rules) (omega arith))
    (λ x q k. search (rules, tests)) (λ x q k. search (rules, tests)))
