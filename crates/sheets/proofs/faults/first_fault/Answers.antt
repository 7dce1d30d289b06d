use Rattle.std.proofs.Common.{ℕ, ◌<◌, ◌≤◌, List, true, false, Decides, Option, None, Some, MatchOption, refl, subst, arith, rules}
use Rattle.std.proofs.lemmas.Bool.Decides.{not_from_Decides}
use borrow.Author.Rules.{of_calls}
use Rattle.std.proofs.lemmas.Iterator.{first_from_Range}
use Rattle.sheets.specs.declared.verdict.Verdict.{Verdict}
use Rattle.sheets.specs.Faults.{Fault, FirstFault}
use Rattle.sheets.proofs.faults.first_fault.Goals as goal

first_told : (present : ℕ) (v : Verdict) (n : ℕ) (ss : List ℕ) (r : Option ℕ) →
    MatchOption r ((k : ℕ) → 0 ≤ k → k < n → Fault present v n ss k → ⊥)
    (λ k. (0 ≤ k) × (k < n) × Fault present v n ss k × ((j : ℕ) → 0 ≤ j → j < k → Fault present v n ss j → ⊥)) →
    MatchOption r ((k : ℕ) → k < n → Fault present v n ss k → ⊥) (FirstFault present v n ss)
first_told present v n ss None none = λ k. none k (omega arith)
first_told present v n ss (Some k) first = record { within = first.1; faulty = first.2; earlier_sound = λ j. first.3 j (omega arith) }

pub returns : goal.returns
returns c =
    let F = Fault c.args.present c.args.verdict c.args.count c.args.steps.now in
    first_told _ _ _ _ c.find.result
    (first_from_Range _ _ _ c.find.result F (λ k. F k → ⊥) c.find.ensures.ran
    (λ x q k. let h : Decides true (F k.shown.now) = search (rules, of_calls) in subst F k.shows (h.0 refl))
    (λ x q k. let h : Decides false (F k.shown.now) = search (rules, of_calls) in (search (rules, of_calls), subst (λ y. F y → ⊥) k.shows (not_from_Decides _ h refl))))
