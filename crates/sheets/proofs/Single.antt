-- The checks of a layout give one answer at most.
--
--   Single C       the check C gives one refusal at most
--   AllSingle cs   each of the checks does
use Rattle.std.proofs.Common.{◌≡◌, ℕ, ◌+◌, true, List, [], ◌∷◌, is_ok, Ok, Err, Result, sym, refl, ap, ◌∙◌, subst, inl, inr, arith}
use Rattle.std.specs.Result.{result_err}
use Rattle.std.proofs.lemmas.Bool.{cases_order}
use Rattle.graph.specs.declared.refusal.Refused.{Refused}
use Rattle.sections.specs.Sections.{entry_number}
use Rattle.sections.proofs.Cutting.{cut_once}
use Rattle.sheets.specs.declared.layout.Layout.{Layout}
use Rattle.sheets.specs.Checks.{FirstOf}
use Rattle.sheets.specs.Faults.{FirstFault}
use Rattle.sheets.specs.Layouts.{at, step_count, step_part, steps_at, CutIn, FaultyStep, Laid, checks}
use Rattle.sheets.proofs.Naming.{same_verdict}

abbrev Single : (Refused → Type 0) → Type 0
Single C = (e d : Refused) → C e → C d → e ≡ d

abbrev AllSingle : List (Refused → Type 0) → Type 0
AllSingle [] = Unit {0}
AllSingle (C ∷ cs) = Single C × AllSingle cs

passed : (a : Result Layout Refused) (b : Result Layout Refused) → is_ok a ≡ true → is_ok b ≡ true → result_err a ≡ result_err b
passed (Ok x) (Ok y) p q = refl
passed (Ok x) (Err e) p q = let z : ◌≡◌ {A = ℕ} 0 1 = cc in absurd (omega arith)
passed (Err d) b p q = let z : ◌≡◌ {A = ℕ} 0 1 = cc in absurd (omega arith)

first_once : (cs : List (Refused → Type 0)) → AllSingle cs → (a b : Result Layout Refused) → FirstOf cs a → FirstOf cs b → result_err a ≡ result_err b
first_once [] single a b p q = passed a b p q
first_once (C ∷ cs) single a b (inl p) (inl q) =
    ap result_err (p.1.1 ∙ ap Err (single.0 p.0 q.0 p.1.0 q.1.0) ∙ sym q.1.1)
first_once (C ∷ cs) single a b (inl p) (inr q) = absurd (q.0 p.0 p.1.0)
first_once (C ∷ cs) single a b (inr p) (inl q) = absurd (p.0 q.0 q.1.0)
first_once (C ∷ cs) single a b (inr p) (inr q) = first_once cs single.1 a b p.1 q.1

single_cut : (bs : List ℕ) (s start size : ℕ) → Single (CutIn bs s start size)
single_cut bs s start size e d p q =
    p.1.1 ∙ ap (λ c. at s (entry_number c)) (cut_once bs start size p.0 q.0 p.1.0 q.1.0) ∙ sym q.1.1

single_fault : (present : ℕ) (bs : List ℕ) → Single (FaultyStep present bs)
single_fault present bs e d p q =
    let same = same_verdict q.verdict p.verdict (q.says ∙ sym p.says) in
    let first : FirstFault present p.verdict (step_count bs) (step_part bs) q.place =
    subst (λ v. FirstFault present v (step_count bs) (step_part bs) q.place) same q.first in
    let places : p.place ≡ q.place = elim (cases_order p.place q.place) [
      | inl here ↦ here
      | inr apart ↦ elim apart [
        | inl before ↦ absurd (first.earlier_sound p.place before p.first.faulty)
        | inr behind ↦ absurd (p.first.earlier_sound q.place behind first.faulty)
      ]
    ] in
    p.told ∙ ap (λ k. at 2 (k + 1)) places ∙ sym q.told

pub one_answer : (present : ℕ) (bs : List ℕ) (a b : Result Layout Refused) → Laid present bs a → Laid present bs b → result_err a ≡ result_err b
unfolding Laid
one_answer present bs a b p q =
    first_once (checks present bs) (
      λ e d x y. x.1 ∙ sym y.1,
      (
        single_cut bs 1 1 1,
        (
          single_cut bs 2 (steps_at bs) 5,
          (
            λ e d x y. x.told ∙ sym y.told,
            (
              single_fault present bs,
              (λ e d x y. x.1 ∙ sym y.1, tt),
            ),
          ),
        ),
      ),
    )
    a b p q
