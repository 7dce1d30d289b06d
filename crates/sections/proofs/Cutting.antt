-- A section is whole in one way or cut in one place.
use Rattle.std.proofs.Common.{◌≡◌, ℕ, List, Ok, Err, Result, sym, refl, ap, ◌∙◌, inl, inr, mul-le-mul_right, arith}
use Rattle.std.proofs.lemmas.Bool.{cases_order}
use Rattle.sections.specs.declared.Section.{Section}
use Rattle.sections.specs.declared.Cut.{Cut}
use Rattle.sections.specs.declared.Cut.TheVariants.{NoCount, InEntry}
use Rattle.sections.specs.Sections.{Whole, Ended, Sectioned}

-- A section that is whole is not cut.
pub whole_not_cut : (bs : List ℕ) (start size : ℕ) (s : Section) → Whole bs start size s → (c : Cut) → Ended bs start size c → ⊥
whole_not_cut bs start size s w NoCount missing = omega (arith, w.counted)
whole_not_cut bs start size s w (InEntry k) cut =
    omega (arith, mul-le-mul_right size cut.listed.1, w.ends, w.within, cut.not_whole)

pub cut_once : (bs : List ℕ) (start size : ℕ) (c d : Cut) → Ended bs start size c → Ended bs start size d → c ≡ d
cut_once bs start size NoCount NoCount p q = refl
cut_once bs start size NoCount (InEntry k) p q = absurd (omega (arith, q.counted))
cut_once bs start size (InEntry k) NoCount p q = absurd (omega (arith, p.counted))
cut_once bs start size (InEntry j) (InEntry k) p q = elim (cases_order j k) [
  | inl same ↦ ap InEntry same
  | inr apart ↦ elim apart [
    | inl before ↦ absurd (omega (arith, q.earlier_whole j before, p.not_whole))
    | inr behind ↦ absurd (omega (arith, p.earlier_whole k behind, q.not_whole))
  ]
]

abbrev made : ℕ → ℕ → Section
made count end = record { count = count; end = end }

pub sectioned_once : (bs : List ℕ) (start size : ℕ) (a b : Result Section Cut) → Sectioned bs start size a → Sectioned bs start size b → a ≡ b
sectioned_once bs start size (Ok s) (Ok t) p q =
    let counts : s.count ≡ t.count = p.told ∙ sym q.told in
    let ends : s.end ≡ t.end = p.ends ∙ sym q.ends in
    ap (λ n. Ok (made n s.end)) counts ∙ ap (λ n. Ok (made t.count n)) ends
sectioned_once bs start size (Ok s) (Err d) p q = absurd (whole_not_cut bs start size s p d q)
sectioned_once bs start size (Err c) (Ok t) p q = absurd (whole_not_cut bs start size t q c p)
sectioned_once bs start size (Err c) (Err d) p q = ap Err (cut_once bs start size c d p q)
