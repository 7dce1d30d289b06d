-- Marking passes true sheets. Of a sheet that it passes it cannot be that it is not true.
use Rattle.std.proofs.Common.{◌≡◌, ℕ, zero, suc, ◌+◌, ◌<◌, ◌≤◌, ◌⊎◌, List, length, Ok, Err, Result, sym, refl, subst, inl, inr, arith}
use Rattle.std.specs.List.{flat_map}
use Rattle.std.proofs.lemmas.Bool.{cases_lt}
use Rattle.graph.specs.declared.event.Event.{Event}
use Rattle.graph.specs.declared.refusal.Refused.{Refused}
use Rattle.graph.specs.declared.refusal.Refusal.TheVariants.{NotThePushingEvents, NotLawful, StepFails, WrongVerdict}
use Rattle.graph.specs.Proper.{Proper}
use Rattle.graph.specs.Refusals.{plain}
use Rattle.profiles.specs.Meaning.{Meaning}
use Rattle.axioms.specs.Relations as axioms
use Rattle.sheets.specs.declared.layout.Layout.{Layout}
use Rattle.sheets.specs.declared.verdict.Verdict.{Verdict}
use Rattle.sheets.specs.declared.verdict.Verdict.TheVariants.{Clear, SourceCycle, CoherenceCycle}
use Rattle.sheets.specs.Faults.{Fault}
use Rattle.sheets.specs.Layouts as layouts
use Rattle.sheets.specs.Layouts.{Laid, RightCount, Says, step_count, step_part}
use Rattle.sheets.specs.Sheets.{Sheet, encode}
use Rattle.sheets.specs.Steps.{step_bytes}
use Rattle.sheets.specs.Truth.{TrueOf}
use Rattle.sheets.specs.WellLaid.{WellLaid}
use Rattle.sheets.proofs.Steps.{named_all, closed_chain, distinct_starts}
use Rattle.sheets.proofs.Telling.{not_well_laid}
use Rattle.marking.specs.Marking.{order_part, truth_checks, Marks, SaysOrdered, AllHold, StepHolds}
use Rattle.marking.proofs.Blaming.{none_blamed}
use Rattle.marking.proofs.Firsts.{NoneOf, none_from_passed, never_refused, parted}
use Rattle.marking.proofs.Parts.{Parted, parts_of}
use Rattle.marking.proofs.Presence.{true_well_laid}
use Rattle.marking.proofs.Truths.{Upright, OrderedBy, upright_true, true_upright}

module _ (m : Meaning) (es : List Event) where
  -- A true sheet gets no refusal.
  not_refused : Proper es → (s : Sheet) → TrueOf m es s → (e : Refused) → Marks m es (encode s) (Err e) → ⊥
  unfolding Marks Laid
  not_refused proper s true e marks =
      elim (parted Layout (layouts.checks (length es + 8) (encode s)) (truth_checks m es (encode s) (order_part (encode s))) (Err e) marks) [
        | inl q ↦ not_well_laid (length es + 8) (encode s) q.0 q.1.0 s refl (true_well_laid m es proper s true)
        | inr q ↦ never_refused (Unit {0}) (truth_checks m es (encode s) (order_part (encode s))) e
            (none_blamed m es (encode s) s (parts_of (encode s) s refl) (true_upright m es s true)) q.1
      ]

  pub true_passes : Proper es → (s : Sheet) → TrueOf m es s → (r : Result (Unit {0}) Refused) → Marks m es (encode s) r → r ≡ Ok tt
  true_passes proper s true (Ok tt) marks = refl
  true_passes proper s true (Err e) marks = absurd (not_refused proper s true e marks)

right_count : (v : Verdict) (n : ℕ) → ((RightCount v n → ⊥) → ⊥) → RightCount v n
right_count Clear n nn = elim (cases_lt 0 n) [ inl some ↦ absurd (nn (λ e. omega arith)) | inr none ↦ omega arith ]
right_count SourceCycle n nn = elim (cases_lt 0 n) [ inl some ↦ some | inr none ↦ absurd (nn (λ some. omega arith)) ]
right_count CoherenceCycle n nn = elim (cases_lt 0 n) [ inl some ↦ some | inr none ↦ absurd (nn (λ some. omega arith)) ]

-- Where no step is the first that is faulty, none is.
module _ (P : ℕ → Type 0) (n : ℕ) (no-first : (k : ℕ) → k < n → P k → ((j : ℕ) → j < k → P j → ⊥) → ⊥) where
  none_below : (k : ℕ) → k ≤ n → (j : ℕ) → j < k → P j → ⊥
  none_below zero le j h p = omega arith
  none_below (suc k) le j h p =
      elim (cases_lt j k) [
        | inl l ↦ none_below k (omega arith) j l p
        | inr l ↦
            let same : j ≡ k = omega arith in
            no-first k (omega arith) (subst P same p) (none_below k (omega arith))
      ]

  pub none_at_all : (k : ℕ) → k < n → P k → ⊥
  none_at_all = none_below n (omega arith)

module _ (present : ℕ) (s : Sheet) (none : NoneOf (layouts.checks present (encode s))) where
  p : Parted (encode s) s
  p = parts_of (encode s) s refl

  v : Verdict
  v = s.verdict

  counted : RightCount s.verdict (length s.steps)
  unfolding p
  counted =
      right_count s.verdict (length s.steps)
      (λ wrong. none.1.1.1.0 (layouts.at 2 0)
      (record { verdict = s.verdict; says = p.says; wrong = λ right. wrong (subst (RightCount s.verdict) p.count right); told = refl }))

  -- The steps of the sheet as its bytes have them.
  in_bytes : (k : ℕ) → Fault present s.verdict (length s.steps) (flat_map step_bytes s.steps) k → Fault present s.verdict (step_count (encode s)) (step_part (encode s)) k
  unfolding p
  in_bytes k f =
      subst (λ ss. Fault present s.verdict (step_count (encode s)) ss k) (sym p.steps)
      (subst (λ n. Fault present s.verdict n (flat_map step_bytes s.steps) k) (sym p.count) f)

  in_sheet : (k : ℕ) → Fault present s.verdict (step_count (encode s)) (step_part (encode s)) k → Fault present s.verdict (length s.steps) (flat_map step_bytes s.steps) k
  unfolding p
  in_sheet k f =
      subst (λ n. Fault present s.verdict n (flat_map step_bytes s.steps) k) p.count
      (subst (λ ss. Fault present s.verdict (step_count (encode s)) ss k) p.steps f)

  no_fault : (k : ℕ) → k < length s.steps → Fault present s.verdict (length s.steps) (flat_map step_bytes s.steps) k → ⊥
  unfolding p
  no_fault =
      none_at_all (Fault present s.verdict (length s.steps) (flat_map step_bytes s.steps)) (length s.steps)
      (λ k h fault sound. none.1.1.1.1.0 (layouts.at 2 (k + 1))
      (record {
        verdict = s.verdict;
        says = p.says;
        place = k;
        first = record { within = subst (λ n. k < n) (sym p.count) h; faulty = in_bytes k fault; earlier_sound = λ j l f. sound j l (in_sheet j f) };
        told = refl;
      }))

  pub passed_well_laid : WellLaid present s
  passed_well_laid = record {
    counted = counted;
    named = named_all present s.verdict s.steps no_fault;
    closed = closed_chain present s.verdict s.steps no_fault;
    once = distinct_starts present s.verdict s.steps no_fault;
  }

module _ (m : Meaning) (es : List Event) (s : Sheet) (none : NoneOf (truth_checks m es (encode s) (order_part (encode s)))) where
  q : Parted (encode s) s
  q = parts_of (encode s) s refl

  none_of_list : NoneOf (truth_checks m es (encode s) s.order)
  unfolding q
  none_of_list = subst (λ L. NoneOf (truth_checks m es (encode s) L)) q.order none

  -- Steps hold one after the other: the first that did not would be told.
  held : (k : ℕ) → k ≤ length s.steps → (AllHold m es s.order (flat_map step_bytes s.steps) k → ⊥) → ⊥
  unfolding q
  held zero le never = never (λ j h. absurd (omega arith))
  held (suc k) le never =
      held k (omega arith)
      (λ all. none_of_list.1.1.1.0 (record { refusal = StepFails; section = 2; entry = k + 1 })
      (record {
        place = k;
        first = record {
          within = subst (λ n. k < n) (sym q.count) (omega arith);
          fails = λ here. never (λ j h. elim (cases_lt j k) [
            | inl l ↦ all j l
            | inr l ↦ let same : k ≡ j = omega arith in subst (StepHolds m es s.order (flat_map step_bytes s.steps)) same (subst (λ ss. StepHolds m es s.order ss k) q.steps here)
          ]);
          earlier_hold = λ j l. subst (λ ss. StepHolds m es s.order ss j) (sym q.steps) (all j l);
        };
        told = refl;
      }))

  says_ordered : (v : Verdict) → s.verdict ≡ v → (v ≡ SourceCycle) ⊎ SaysOrdered (encode s)
  unfolding q
  says_ordered Clear is = inr (inl (subst (Says (encode s)) is q.says))
  says_ordered SourceCycle is = inl refl
  says_ordered CoherenceCycle is = inr (inr (subst (Says (encode s)) is q.says))

  ordered : (OrderedBy s.verdict es s.order → ⊥) → ⊥
  ordered never =
      elim (says_ordered s.verdict refl) [
        | inl source ↦ never (inl source)
        | inr says ↦ none_of_list.1.1.0 (plain NotLawful)
            (says, (λ lawful. never (inr (record { sources = λ c. none_of_list.1.0 (plain WrongVerdict) (says, (c, refl)); lawful = lawful })), refl))
      ]

  clear : s.verdict ≡ Clear → axioms.CoherenceCycle m es s.order → ⊥
  unfolding q
  clear is c = none_of_list.1.1.1.1.0 (plain WrongVerdict) (subst (Says (encode s)) is q.says, (c, refl))

  passed_upright : (Upright m es s → ⊥) → ⊥
  passed_upright never =
      none_of_list.0 (plain NotThePushingEvents)
      (λ pushing. ordered (λ o. held (length s.steps) (omega arith) (λ all. never (record { pushing = pushing; ordered = o; hold = all; clear = clear }))), refl)

pub passed_true : (m : Meaning) (es : List Event) (s : Sheet) → Marks m es (encode s) (Ok tt) → (TrueOf m es s → ⊥) → ⊥
unfolding Marks
passed_true m es s marks never =
    let cs = layouts.checks (length es + 8) (encode s) in
    let ds = truth_checks m es (encode s) (order_part (encode s)) in
    elim (parted Layout cs ds (Ok tt) marks) [
      | inl q ↦ let z : ◌≡◌ {A = ℕ} 0 1 = cc q.1.1 in omega arith
      | inr q ↦
          let laid = passed_well_laid (length es + 8) s q.0 in
          passed_upright m es s (none_from_passed ds tt q.1) (λ u. never (upright_true m es (length es + 8) s laid u))
    ]
