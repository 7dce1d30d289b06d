-- When a step is faulty, and when it is not.
use Rattle.std.proofs.Common.{◌≡◌, ℕ, ◌+◌, ◌*◌, ◌<◌, ◌≤◌, ◌⊎◌, List, length, get_or, sym, refl, ap, ◌∙◌, subst, inl, inr, arith}
use Rattle.std.proofs.lemmas.Bool.{cases_lt, cases_eq}
use Rattle.sheets.specs.declared.step.Step.{Step}
use Rattle.sheets.specs.declared.verdict.Verdict.{Verdict}
use Rattle.sheets.specs.Entries.{from, to, reader, second, next, Stands}
use Rattle.sheets.specs.Faults.{ReaderAt, Fault, absent_from, absent_to, foreign_rule, wrong_reader, wrong_second, broken, repeated}
use Rattle.sheets.specs.Steps.{readers}
use Rattle.sheets.specs.Verdicts.{Belongs}
use Rattle.sheets.specs.WellLaid.{WellNamed}
use Rattle.sheets.proofs.Naming.{same_rule, belongs_decided}
use Rattle.sheets.proofs.Places.{Reads, reads_stands}

reader_at_decided : (present m j r : ℕ) → ReaderAt present m j r ⊎ (ReaderAt present m j r → ⊥)
reader_at_decided present m j r = elim (cases_lt j m) [
  | inl named ↦ elim (cases_lt r present) [
    | inl there ↦ inl (λ h. there, λ h. absurd (omega arith))
    | inr gone ↦ inr (λ a. omega (arith, a.0 named))
  ]
  | inr unnamed ↦ elim (cases_eq r 255) [
    | inl none ↦ inl (λ h. absurd (omega arith), λ h. none)
    | inr some ↦ inr (λ a. some (a.1 unnamed))
  ]
]

-- The byte that is read where the step behind starts.
pub start_behind : (ss : List ℕ) (p q : ℕ) → p ≡ q → get_or ss (p * 5) 0 ≡ from ss q
start_behind ss p q e = ap (λ i. get_or ss i 0) (omega arith)

-- No rule has the number that stands there.
pub unknown_rule : (present : ℕ) (v : Verdict) (n : ℕ) (ss : List ℕ) (k : ℕ) → k * 5 + 5 ≤ length ss →
    ((s : Step) → Stands ss k s → ⊥) → Fault present v n ss k
unknown_rule present v n ss k whole none =
    foreign_rule (λ x e b.
    let s : Step = record { from = from ss k; to = to ss k; rule = x; reader = reader ss k; second = second ss k } in
    none s (reads_stands ss k s (record { whole = whole; starts = refl; leads = refl; by = sym e; reads = refl; reads_second = refl })))

module _ (present : ℕ) (v : Verdict) (n : ℕ) (ss : List ℕ) (k : ℕ) (s : Step) (reads : Reads ss k s) where
  rule_foreign : (Belongs v s.rule → ⊥) → Fault present v n ss k
  rule_foreign none = foreign_rule (λ x e b. none (subst (Belongs v) (same_rule x s.rule (e ∙ reads.by)) b))

  readers_wrong : (ReaderAt present (readers s.rule) 0 s.reader × ReaderAt present (readers s.rule) 1 s.second → ⊥) →
      Fault present v n ss k
  readers_wrong none = elim (reader_at_decided present (readers s.rule) 0 s.reader) [
    | inr wrong ↦ wrong_reader s.rule (sym reads.by) (λ a. wrong (subst (ReaderAt present (readers s.rule) 0) reads.reads a))
    | inl right ↦
        wrong_second s.rule (sym reads.by) (λ a. none (right, subst (ReaderAt present (readers s.rule) 1) reads.reads_second a))
  ]

  pub well_named_or_faulty : WellNamed present v s ⊎ Fault present v n ss k
  well_named_or_faulty = elim (cases_lt s.from present) [
    | inr absent ↦ inr (absent_from (omega (arith, reads.starts)))
    | inl start ↦ elim (cases_lt s.to present) [
      | inr absent ↦ inr (absent_to (omega (arith, reads.leads)))
      | inl end ↦ elim (belongs_decided v s.rule) [
        | inr foreign ↦ inr (rule_foreign foreign)
        | inl belongs ↦ elim (reader_at_decided present (readers s.rule) 0 s.reader) [
          | inr wrong ↦ inr (readers_wrong (λ both. wrong both.0))
          | inl first ↦ elim (reader_at_decided present (readers s.rule) 1 s.second) [
            | inr wrong ↦ inr (readers_wrong (λ both. wrong both.1))
            | inl second ↦
                inl (record { start = start; end = end; belongs = belongs; first_reader = first; second_reader = second })
          ]
        ]
      ]
    ]
  ]

  -- Nothing is left but a start where an earlier step starts.
  pub only_repeated : WellNamed present v s → s.to ≡ from ss (next n k) → Fault present v n ss k →
      (j : ℕ) × (j < k) × (from ss j ≡ from ss k)
  only_repeated well on (absent_from h) = absurd (omega (arith, reads.starts, well.start))
  only_repeated well on (absent_to h) = absurd (omega (arith, reads.leads, well.end))
  only_repeated well on (foreign_rule none) = absurd (none s.rule (sym reads.by) well.belongs)
  only_repeated well on (wrong_reader x e w) =
      let same = same_rule s.rule x (sym reads.by ∙ sym e) in
      absurd (w (subst (λ y. ReaderAt present (readers y) 0 (reader ss k)) same (subst (ReaderAt present (readers s.rule) 0) (sym reads.reads) well.first_reader)))
  only_repeated well on (wrong_second x e w) =
      let same = same_rule s.rule x (sym reads.by ∙ sym e) in
      absurd (w (subst (λ y. ReaderAt present (readers y) 1 (second ss k)) same (subst (ReaderAt present (readers s.rule) 1) (sym reads.reads_second) well.second_reader)))
  only_repeated well on (broken w) = absurd (w (reads.leads ∙ on))
  only_repeated well on (repeated j h e) = (j, h, e)
