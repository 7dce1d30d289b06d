-- The checks of marking give one answer at most.
use Rattle.std.proofs.Common.{◌≡◌, ℕ, ◌+◌, true, List, [], ◌∷◌, length, is_ok, Ok, Err, Result, sym, refl, ap, ◌∙◌, inl, inr, arith}
use Rattle.std.proofs.lemmas.Bool.{cases_order}
use Rattle.graph.specs.declared.event.Event.{Event}
use Rattle.graph.specs.declared.refusal.Refused.{Refused}
use Rattle.graph.specs.declared.refusal.Refusal.TheVariants.{StepFails}
use Rattle.profiles.specs.Meaning.{Meaning}
use Rattle.sheets.specs.declared.layout.Layout.{Layout}
use Rattle.sheets.specs.Checks.{FirstOf}
use Rattle.sheets.specs.Layouts as layouts
use Rattle.sheets.specs.Layouts.{Laid}
use Rattle.sheets.proofs.Single.{one_answer}
use Rattle.marking.specs.Marking.{FailingStep, order_part, truth_checks, Marks}
use Rattle.marking.proofs.Firsts.{parted, never_refused}

abbrev Answer : Type 0
Answer = Result (Unit {0}) Refused

abbrev Single : (Refused → Type 0) → Type 0
Single C = (e d : Refused) → C e → C d → e ≡ d

abbrev AllSingle : List (Refused → Type 0) → Type 0
AllSingle [] = Unit {0}
AllSingle (C ∷ cs) = Single C × AllSingle cs

both_pass : (a b : Answer) → is_ok a ≡ true → is_ok b ≡ true → a ≡ b
both_pass (Ok x) (Ok y) p q = refl
both_pass (Ok x) (Err e) p q = let z : ◌≡◌ {A = ℕ} 0 1 = cc in absurd (omega arith)
both_pass (Err d) b p q = let z : ◌≡◌ {A = ℕ} 0 1 = cc in absurd (omega arith)

first_once : (cs : List (Refused → Type 0)) → AllSingle cs → (a b : Answer) → FirstOf cs a → FirstOf cs b → a ≡ b
first_once [] single a b p q = both_pass a b p q
first_once (C ∷ cs) single a b (inl p) (inl q) =
    p.1.1 ∙ ap Err (single.0 p.0 q.0 p.1.0 q.1.0) ∙ sym q.1.1
first_once (C ∷ cs) single a b (inl p) (inr q) = absurd (q.0 p.0 p.1.0)
first_once (C ∷ cs) single a b (inr p) (inl q) = absurd (p.0 q.0 q.1.0)
first_once (C ∷ cs) single a b (inr p) (inr q) = first_once cs single.1 a b p.1 q.1

single_failing : (m : Meaning) (es : List Event) (L ss : List ℕ) (n : ℕ) → Single (FailingStep m es L ss n)
single_failing m es L ss n e d p q =
    let places : p.place ≡ q.place = elim (cases_order p.place q.place) [
      | inl here ↦ here
      | inr apart ↦ elim apart [
        | inl before ↦ absurd (p.first.fails (q.first.earlier_hold p.place before))
        | inr behind ↦ absurd (q.first.fails (p.first.earlier_hold q.place behind))
      ]
    ] in
    let at : ℕ → Refused = λ k. record { refusal = StepFails; section = 2; entry = k + 1 } in
    p.told ∙ ap at places ∙ sym q.told

all_single : (m : Meaning) (es : List Event) (bs L : List ℕ) → AllSingle (truth_checks m es bs L)
all_single m es bs L = (
  λ e d x y. x.1 ∙ sym y.1,
  (
    λ e d x y. x.1.1 ∙ sym y.1.1,
    (λ e d x y. x.1.1 ∙ sym y.1.1, (single_failing m es L _ _, (λ e d x y. x.1.1 ∙ sym y.1.1, tt))),
  ),
)

-- two refusals of a layout are one
same_layout : (present : ℕ) (bs : List ℕ) (e d : Refused) → Laid present bs (Err e) → Laid present bs (Err d) → e ≡ d
same_layout present bs e d p q = let same = one_answer present bs (Err e) (Err d) p q in cc

pub marks_once : (m : Meaning) (es : List Event) (bs : List ℕ) (a b : Answer) → Marks m es bs a → Marks m es bs b → a ≡ b
unfolding Marks Laid
marks_once m es bs a b p q =
    let cs = layouts.checks (length es + 8) bs in
    let ds = truth_checks m es bs (order_part bs) in
    elim (parted Layout cs ds a p) [
      | inl x ↦ elim (parted Layout cs ds b q) [
        | inl y ↦ x.1.1 ∙ ap Err (same_layout (length es + 8) bs x.0 y.0 x.1.0 y.1.0) ∙ sym y.1.1
        | inr y ↦ absurd (never_refused Layout cs x.0 y.0 x.1.0)
      ]
      | inr x ↦ elim (parted Layout cs ds b q) [
        | inl y ↦ absurd (never_refused Layout cs y.0 x.0 y.1.0)
        | inr y ↦ first_once ds (all_single m es bs (order_part bs)) a b x.1 y.1
      ]
    ]
