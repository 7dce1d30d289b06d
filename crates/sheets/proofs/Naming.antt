-- What a number names: one rule and one verdict at most. Which rules belong to which verdicts.
use Rattle.std.proofs.Common.{◌≡◌, ℕ, zero, suc, ◌<◌, ◌≤◌, ◌⊎◌, [], ◌∷◌, get_or, Some, None, Ok, Err, Result, sym, refl, ap, ◌∙◌, inl, inr, arith}
use Rattle.std.proofs.lemmas.Bool.{cases_Bool, both_ways}
use Rattle.std.specs.Result.{result_ok}
use Rattle.axioms.specs.Rules as rules
use Rattle.axioms.specs.declared.rule.UnknownRule.{UnknownRule}
use Rattle.axioms.specs.declared.rule.Rule.{Rule}
use Rattle.axioms.specs.declared.rule.Rule.TheVariants.{ProgramOrder, ReadsFrom, Coww, Cowr, Corw, Corr}
use Rattle.sheets.specs.declared.verdict.Verdict.{Verdict}
use Rattle.sheets.specs.declared.verdict.Verdict.TheVariants.{Clear, SourceCycle, CoherenceCycle}
use Rattle.sheets.specs.Verdicts as verdicts

abbrev rule_of : ℕ → Rule
rule_of n = get_or (ProgramOrder ∷ ProgramOrder ∷ ReadsFrom ∷ Coww ∷ Cowr ∷ Corw ∷ Corr ∷ []) n ProgramOrder

rule_back : (x : Rule) → rule_of (rules.number x) ≡ x
rule_back ProgramOrder = refl
rule_back ReadsFrom = refl
rule_back Coww = refl
rule_back Cowr = refl
rule_back Corw = refl
rule_back Corr = refl

pub same_rule : (x y : Rule) → rules.number x ≡ rules.number y → x ≡ y
same_rule x y e = sym (rule_back x) ∙ ap rule_of e ∙ rule_back y

abbrev verdict_of : ℕ → Verdict
verdict_of n = get_or (Clear ∷ SourceCycle ∷ CoherenceCycle ∷ []) n Clear

verdict_back : (v : Verdict) → verdict_of (verdicts.number v) ≡ v
verdict_back Clear = refl
verdict_back SourceCycle = refl
verdict_back CoherenceCycle = refl

pub same_verdict : (v w : Verdict) → verdicts.number v ≡ verdicts.number w → v ≡ w
same_verdict v w e = sym (verdict_back v) ∙ ap verdict_of e ∙ verdict_back w

pub no_verdict : (n : ℕ) → ((v : Verdict) → verdicts.number v ≡ n → ⊥) → 2 < n
no_verdict zero none = absurd (none Clear refl)
no_verdict (suc zero) none = absurd (none SourceCycle refl)
no_verdict (suc (suc zero)) none = absurd (none CoherenceCycle refl)
no_verdict (suc (suc (suc n))) none = omega arith

pub verdict_low : (v : Verdict) → verdicts.number v ≤ 2
verdict_low Clear = omega arith
verdict_low SourceCycle = omega arith
verdict_low CoherenceCycle = omega arith

rule_bounds : (x : Rule) → (1 ≤ rules.number x) × (rules.number x ≤ 6)
rule_bounds ProgramOrder = (omega arith, omega arith)
rule_bounds ReadsFrom = (omega arith, omega arith)
rule_bounds Coww = (omega arith, omega arith)
rule_bounds Cowr = (omega arith, omega arith)
rule_bounds Corw = (omega arith, omega arith)
rule_bounds Corr = (omega arith, omega arith)

-- A number is a rule's, or no rule has it.
pub rule_known : (n : ℕ) → ((x : Rule) × (rules.number x ≡ n)) ⊎ ((x : Rule) → rules.number x ≡ n → ⊥)
rule_known zero = inr (λ x e. omega (arith, rule_bounds x))
rule_known (suc zero) = inl (ProgramOrder, refl)
rule_known (suc (suc zero)) = inl (ReadsFrom, refl)
rule_known (suc (suc (suc zero))) = inl (Coww, refl)
rule_known (suc (suc (suc (suc zero)))) = inl (Cowr, refl)
rule_known (suc (suc (suc (suc (suc zero))))) = inl (Corw, refl)
rule_known (suc (suc (suc (suc (suc (suc zero)))))) = inl (Corr, refl)
rule_known (suc (suc (suc (suc (suc (suc (suc n))))))) = inr (λ x e. omega (arith, rule_bounds x))

-- What `try_from` tells of a number's rule, where only whether there is one goes on.
pub one_rule : (n : ℕ) (r : Result Rule UnknownRule) (x : Rule) → rules.Numbered n r → Some x ≡ result_ok r → rules.number x ≡ n
one_rule n (Ok y) x told is = let same : x ≡ y = cc in ap rules.number same ∙ told
one_rule n (Err e) x told is = cc

pub no_rule : (n : ℕ) (r : Result Rule UnknownRule) → rules.Numbered n r → None ≡ result_ok r → (x : Rule) → rules.number x ≡ n → ⊥
no_rule n (Ok y) told is = cc
no_rule n (Err e) told is = told.1

pub belongs_decided : (v : Verdict) (x : Rule) → verdicts.Belongs v x ⊎ (verdicts.Belongs v x → ⊥)
belongs_decided Clear x = inr (λ b. b)
belongs_decided SourceCycle x = elim (cases_Bool (rules.is_coherence x)) [ inl t ↦ inr (λ f. both_ways _ f t) | inr f ↦ inl f ]
belongs_decided CoherenceCycle x = elim (cases_Bool (rules.is_coherence x)) [ inl t ↦ inl t | inr f ↦ inr (λ t. both_ways _ f t) ]
