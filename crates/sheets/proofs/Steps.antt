-- The steps of a sheet are well laid out exactly if none of them is faulty.
use Rattle.std.proofs.Common.{◌≡◌, ℕ, ◌<◌, List, length, get_or, sym, ap, ◌∙◌, inl, inr, arith}
use Rattle.std.specs.List.{flat_map, AllByRecursion}
use Rattle.std.proofs.ByRecursion.{All-get_or, All-from_get_or}
use Rattle.std.proofs.lemmas.List.{get_or-map, length-map, ext_get_or}
use Rattle.std.proofs.lemmas.Bool.{cases_eq}
use Rattle.axioms.specs.declared.rule.Rule.TheVariants.{ProgramOrder}
use Rattle.cycles.specs.Cycles.{Distinct}
use Rattle.sheets.specs.declared.step.Step.{Step}
use Rattle.sheets.specs.declared.verdict.Verdict.{Verdict}
use Rattle.sheets.specs.Entries.{from, to, next}
use Rattle.sheets.specs.Faults.{Fault, broken, repeated}
use Rattle.sheets.specs.Steps.{step_bytes}
use Rattle.sheets.specs.WellLaid.{WellNamed, froms, tos, turned}
use Rattle.sheets.proofs.Blame.{well_named_or_faulty, only_repeated}
use Rattle.sheets.proofs.Chains.{next_below, length_turned, get_or_turned, distinct_from_places, places_from_distinct}
use Rattle.sheets.proofs.Places.{Reads, stands_reads, stands_joined}

abbrev none : Step
none = record { from = 0; to = 0; rule = ProgramOrder; reader = 0; second = 0 }

module _ (present : ℕ) (v : Verdict) (ts : List Step) where
  abbrev bytes : List ℕ
  bytes = flat_map step_bytes ts

  reads : (k : ℕ) → k < length ts → Reads bytes k (get_or ts k none)
  reads k h = stands_reads bytes k (get_or ts k none) (stands_joined ts k none h)

  starts : (k : ℕ) → k < length ts → from bytes k ≡ get_or (froms ts) k 0
  starts k h = (reads k h).starts ∙ sym (get_or-map (λ t. t.from) ts k none 0 h)

  leads : (k : ℕ) → k < length ts → to bytes k ≡ get_or (tos ts) k 0
  leads k h = (reads k h).leads ∙ sym (get_or-map (λ t. t.to) ts k none 0 h)

  -- where the step behind starts
  behind : (k : ℕ) → k < length ts → get_or (turned (froms ts)) k 0 ≡ from bytes (next (length ts) k)
  behind k h =
      let size : length (froms ts) ≡ length ts = length-map ts (λ t. t.from) in
      let within : k < length (froms ts) = omega arith in
      get_or_turned (froms ts) k within
      ∙ ap (λ n. get_or (froms ts) (next n k) 0) size
      ∙ sym (starts (next (length ts) k) (next_below (length ts) k h))

  pub not_faulty : AllByRecursion (WellNamed present v) ts → tos ts ≡ turned (froms ts) → Distinct (froms ts) →
      (k : ℕ) → k < length ts → Fault present v (length ts) bytes k → ⊥
  not_faulty named closed once k h fault =
      let t = get_or ts k none in
      let well = All-get_or (WellNamed present v) ts k none h named in
      let on : t.to ≡ from bytes (next (length ts) k) =
      sym (reads k h).leads ∙ leads k h ∙ ap (λ xs. get_or xs k 0) closed ∙ behind k h in
      let twice = only_repeated present v (length ts) bytes k t (reads k h) well on fault in
      let size : length (froms ts) ≡ length ts = length-map ts (λ t. t.from) in
      let j = twice.0 in
      let earlier : j < k = twice.1 in
      let there : j < length ts = omega arith in
      places_from_distinct (froms ts) once j k earlier (omega arith) (sym (starts j there) ∙ twice.2 ∙ starts k h)

  module _ (sound : (k : ℕ) → k < length ts → Fault present v (length ts) bytes k → ⊥) where
    named_at : (k : ℕ) → k < length ts → WellNamed present v (get_or ts k none)
    named_at k h = elim (well_named_or_faulty present v (length ts) bytes k (get_or ts k none) (reads k h)) [
      | inl well ↦ well
      | inr fault ↦ absurd (sound k h fault)
    ]

    pub named_all : AllByRecursion (WellNamed present v) ts
    named_all = All-from_get_or (WellNamed present v) ts none named_at

    pub closed_chain : tos ts ≡ turned (froms ts)
    closed_chain =
        let size : length (froms ts) ≡ length ts = length-map ts (λ t. t.from) in
        let sizes : length (tos ts) ≡ length ts = length-map ts (λ t. t.to) in
        ext_get_or 0 (tos ts) (turned (froms ts)) (sizes ∙ sym size ∙ sym (length_turned (froms ts))) (λ i h.
        let within : i < length ts = omega arith in
        elim (cases_eq (to bytes i) (from bytes (next (length ts) i))) [
          | inl e ↦ sym (leads i within) ∙ e ∙ sym (behind i within)
          | inr apart ↦ absurd (sound i within (broken apart))
        ])

    pub distinct_starts : Distinct (froms ts)
    distinct_starts =
        let size : length (froms ts) ≡ length ts = length-map ts (λ t. t.from) in
        distinct_from_places (froms ts) (λ i j h l e.
        let later : j < length ts = omega arith in
        let earlier : i < length ts = omega arith in
        sound j later (repeated i h (starts i earlier ∙ e ∙ sym (starts j later))))
