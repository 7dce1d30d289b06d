-- Bytes in which no check finds a fault are those of a sheet that is well laid out, and the other way round.
use Rattle.std.proofs.Common.{◌≡◌, ℕ, ◌+◌, ◌-◌, ◌*◌, ◌<◌, ◌≤◌, List, [], ◌∷◌, ◌++◌, length, get_or, drop, Err, sym, refl, ap, ◌∙◌, subst, inl, inr, arith, length-append}
use Rattle.std.specs.List.{between, flat_map}
use Rattle.std.proofs.lemmas.List.Edits.{length-between}
use Rattle.std.proofs.lemmas.List.{append_assoc, take-append-drop, drop-drop, drop_more, drop_at, get_or_at}
use Rattle.std.proofs.lemmas.Slice.{between_to_end}
use Rattle.axioms.specs.Rules.{number}
use Rattle.axioms.specs.declared.rule.Rule.{Rule}
use Rattle.graph.specs.declared.refusal.Refused.{Refused}
use Rattle.sections.specs.declared.Section.{Section}
use Rattle.sheets.specs.declared.layout.Layout.{Layout}
use Rattle.sheets.specs.declared.verdict.Verdict.{Verdict}
use Rattle.sheets.specs.Entries.{rule}
use Rattle.sheets.specs.Faults.{Fault, foreign_rule}
use Rattle.sheets.specs.Layouts.{RightCount, Laid}
use Rattle.sheets.specs.Sheets.{Sheet, encode}
use Rattle.sheets.specs.Steps.{step_bytes}
use Rattle.sheets.specs.Verdicts as verdicts
use Rattle.sheets.specs.WellLaid.{WellLaid, Told}
use Rattle.sheets.proofs.Bytes.{length_steps}
use Rattle.sheets.proofs.Decoding.{Decoded, decoded, same_sheet}
use Rattle.sheets.proofs.Naming.{rule_known}
use Rattle.sheets.proofs.Sound.{Sound, steps_of, never_refused}
use Rattle.sheets.proofs.Steps.{not_faulty, named_all, closed_chain, distinct_starts}

-- The bytes part by part, where the second section begins at p and ends with them.
parts : (bs : List ℕ) (p q : ℕ) → 2 ≤ p → p < length bs → length bs ≤ q →
    bs ≡ (get_or bs 0 0 ∷ get_or bs 1 0 ∷ between 2 p bs) ++ (get_or bs p 0 ∷ between (p + 1) q bs)
parts [] p q low h end = absurd (omega arith)
parts (a ∷ []) p q low h end = absurd (omega arith)
parts (a ∷ b ∷ cs) p q low h end =
    let bs = a ∷ b ∷ cs in
    let place : 2 + (p - 2) ≡ p = omega arith in
    let split = take-append-drop (p - 2) cs in
    let onward : drop (p - 2) cs ≡ drop p bs = drop-drop (p - 2) 2 bs ∙ ap (λ i. drop i bs) place in
    let here = drop_more bs p 0 h in
    let rest = between_to_end bs (p + 1) q end in
    cc

module _ (present : ℕ) (bs : List ℕ) (v : Verdict) (one two : Section) (sound : Sound present bs v one two) where
  long : length (steps_of bs one two) ≡ two.count * 5
  long =
      length-between bs (one.end + 1) two.end sound.cuts.behind.within
      ∙ omega (arith, sound.cuts.behind.ends, ap (λ n. n * 5) sound.cuts.behind.told)

  known : (k : ℕ) → k < two.count → (x : Rule) × (number x ≡ rule (steps_of bs one two) k)
  known k h = elim (rule_known (rule (steps_of bs one two) k)) [
    | inl x ↦ x
    | inr none ↦ absurd (sound.steps k h (foreign_rule (λ x e b. none x e)))
  ]

  steps : Decoded two.count (steps_of bs one two)
  steps = decoded two.count (steps_of bs one two) long known

  abbrev told_sheet : Sheet
  told_sheet = record { verdict = v; order = between 2 one.end bs; steps = steps.steps }

  told_bytes : bs ≡ encode told_sheet
  unfolding encode
  told_bytes =
      let cuts = sound.cuts in
      let low : 2 ≤ one.end = omega (arith, cuts.first.ends) in
      let all = parts bs one.end two.end low cuts.behind.counted sound.ends in
      let listed : length (between 2 one.end bs) ≡ get_or bs 1 0 =
      length-between bs 2 one.end cuts.first.within ∙ omega (arith, cuts.first.ends) in
      let counted : length steps.steps ≡ get_or bs one.end 0 = steps.count ∙ cuts.behind.told in
      all ∙ cc (cuts.says, listed, counted, steps.is)

  well : WellLaid present told_sheet
  well =
      let none : (k : ℕ) → k < length steps.steps → Fault present v (length steps.steps) (flat_map step_bytes steps.steps) k → ⊥ = λ k h f.
      sound.steps k (subst (λ n. k < n) steps.count h)
      (subst (λ ss. Fault present v two.count ss k) (sym steps.is) (subst (λ n. Fault present v n (flat_map step_bytes steps.steps) k) steps.count f)) in
      record {
        counted = subst (RightCount v) (sym steps.count) sound.count;
        named = named_all present v steps.steps none;
        closed = closed_chain present v steps.steps none;
        once = distinct_starts present v steps.steps none;
      }

  pub told : (l : Layout) → l.verdict ≡ v → l.order.now ≡ between 2 one.end bs → l.steps.now ≡ steps_of bs one two → Told present bs l
  told l is-v is-order is-steps = record {
    sheet = told_sheet;
    encoded = told_bytes;
    only = λ t e. same_sheet t told_sheet (sym e ∙ told_bytes);
    well_laid = well;
    verdict = is-v;
    order = is-order;
    steps = is-steps ∙ steps.is;
  }

module _ (present : ℕ) (s : Sheet) (w : WellLaid present s) where
  abbrev first_section : Section
  first_section = record { count = length s.order; end = 2 + length s.order }

  abbrev second_section : Section
  second_section = record { count = length s.steps; end = 2 + length s.order + 1 + length s.steps * 5 }

  abbrev head : List ℕ
  head = verdicts.number s.verdict ∷ length s.order ∷ s.order

  size : length (encode s) ≡ 2 + length s.order + 1 + length s.steps * 5
  unfolding encode
  size = length-append head (length s.steps ∷ flat_map step_bytes s.steps) ∙ omega (arith, length_steps s.steps)

  count_there : get_or (encode s) (2 + length s.order) 0 ≡ length s.steps
  unfolding encode
  count_there = get_or_at head (length s.steps) (flat_map step_bytes s.steps) 0 (2 + length s.order) (omega arith)

  steps_there : steps_of (encode s) first_section second_section ≡ flat_map step_bytes s.steps
  unfolding encode
  steps_there =
      let start = 2 + length s.order + 1 in
      let long : length (head ++ length s.steps ∷ []) ≡ start = length-append head (length s.steps ∷ []) ∙ omega arith in
      between_to_end (encode s) start (start + length s.steps * 5) (omega (arith, size))
      ∙ ap (drop start) (sym (append_assoc head (length s.steps ∷ []) (flat_map step_bytes s.steps)))
      ∙ drop_at (head ++ length s.steps ∷ []) (flat_map step_bytes s.steps) start long

  first_byte : get_or (encode s) 0 0 ≡ verdicts.number s.verdict
  unfolding encode
  first_byte = refl

  second_byte : get_or (encode s) 1 0 ≡ length s.order
  unfolding encode
  second_byte = refl

  encoded_sound : Sound present (encode s) s.verdict first_section second_section
  encoded_sound = record {
    cuts = record {
      some = omega (arith, size);
      says = sym first_byte;
      first = record { counted = omega (arith, size); told = sym second_byte; ends = omega (arith, second_byte); within = omega (arith, size) };
      behind = record {
        counted = omega (arith, size);
        told = sym count_there;
        ends = omega (arith, ap (λ n. n * 5) count_there);
        within = omega (arith, size);
      };
    };
    count = w.counted;
    steps = λ k h f.
        not_faulty present s.verdict s.steps w.named w.closed w.once k h
        (subst (λ ss. Fault present s.verdict (length s.steps) ss k) steps_there f);
    ends = omega (arith, size);
  }

-- Bytes that the checks refuse are those of no sheet that is well laid out.
pub not_well_laid : (present : ℕ) (bs : List ℕ) (e : Refused) → Laid present bs (Err e) → (s : Sheet) → bs ≡ encode s → WellLaid present s → ⊥
not_well_laid present bs e laid s is w =
    never_refused present (encode s) s.verdict (first_section present s w) (second_section present s w) (encoded_sound present s w) e
    (subst (λ xs. Laid present xs (Err e)) is laid)
