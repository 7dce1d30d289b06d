-- The rules by which a step of a cycle holds.
--
--   number          the number of a rule, as sheets have it
--   Numbered n r    r is the rule with the number n, or the error that tells n, which is no rule's number
--   is_coherence    a rule of coherence; the others are those of source cycles
--   Unused x r s    the readers that the rule x does not name are 255
use Rattle.std.specs.Prelude.{◌≡◌, ℕ, Bool, true, false, ◌≢◌, Result, MatchResult}
use Rattle.axioms.specs.declared.rule.Rule.{Rule}
use Rattle.axioms.specs.declared.rule.UnknownRule.{UnknownRule}
use Rattle.axioms.specs.declared.rule.Rule.TheVariants.{ProgramOrder, ReadsFrom, Coww, Cowr, Corw, Corr}

abbrev pub number : Rule → ℕ
number ProgramOrder = 1
number ReadsFrom = 2
number Coww = 3
number Cowr = 4
number Corw = 5
number Corr = 6

abbrev pub Numbered : ℕ → Result Rule UnknownRule → Type 0
Numbered n r = MatchResult r (λ x. number x ≡ n) (λ e. (e.0 ≡ n) × ((x : Rule) → number x ≢ n))

abbrev pub is_coherence : Rule → Bool
is_coherence ProgramOrder = false
is_coherence ReadsFrom = false
is_coherence Coww = true
is_coherence Cowr = true
is_coherence Corw = true
is_coherence Corr = true

abbrev pub Unused : Rule → ℕ → ℕ → Type 0
Unused ProgramOrder r s = (r ≡ 255) × (s ≡ 255)
Unused ReadsFrom r s = (r ≡ 255) × (s ≡ 255)
Unused Coww r s = (r ≡ 255) × (s ≡ 255)
Unused Cowr r s = s ≡ 255
Unused Corw r s = s ≡ 255
Unused Corr r s = Unit {0}
