-- Steps laid out from a cycle show it.
use Rattle.std.proofs.Common.{◌≡◌, ℕ, ◌+◌, ◌-◌, ◌<◌, cond, List, [], ◌∷◌, length, get_or, take, sym, refl, ap, ◌∙◌, subst, inl, inr, add-one, arith}
use lib.ListN.{length-map}
use Rattle.std.specs.List.{AllByRecursion}
use Rattle.std.proofs.ByRecursion.{All-from_get_or}
use Rattle.std.proofs.lemmas.List.{get_or-map, get_or-take, length-take-le, ext_get_or, length-append, get_or_append_left, get_or-append_right}
use Rattle.std.proofs.lemmas.Bool.{cases_lt, lt-ltb, le-ltb}
use Rattle.cycles.specs.Cycles.{Distinct, Lowest, Shortest}
use Rattle.cycles.proofs.Chains.{closed_some}
use Rattle.graph.specs.declared.event.Event.{Event}
use Rattle.profiles.specs.Meaning.{Meaning}
use Rattle.coherence.specs.declared.naming.NamedStep.{NamedStep}
use Rattle.sheets.specs.declared.step.Step.{Step}
use Rattle.sheets.specs.declared.verdict.Verdict.{Verdict}
use Rattle.sheets.specs.Truth.{Sound}
use Rattle.sheets.specs.WellLaid.{froms, tos, turned}
use Rattle.judging.specs.declared.steps.Steps.{Steps}
use Rattle.judging.specs.Finding.{LeastChain}
use Rattle.judging.specs.Laying.{next, Laid, LaidAt, no_step, name_of, steps_of}

length_turned : (vs : List ℕ) → length (turned vs) ≡ length vs
length_turned [] = refl
length_turned (v ∷ vs) = length-append vs (v ∷ []) ∙ omega arith

turned_next : (vs : List ℕ) (i : ℕ) → i < length vs → get_or (turned vs) i 0 ≡ next vs i
turned_next [] i h = absurd (omega arith)
turned_next (v ∷ vs) i h =
    elim (cases_lt i (length vs)) [
      | inl l ↦
          get_or_append_left vs (v ∷ []) 0 i l ∙ sym (ap (λ k. get_or (v ∷ vs) k 0) (add-one i))
          ∙ sym (ap (λ b. cond b (get_or (v ∷ vs) (i + 1) 0) v) (lt-ltb (i + 1) (length (v ∷ vs)) (omega arith)))
      | inr l ↦
          let last : i - length vs ≡ 0 = omega arith in
          get_or-append_right vs (v ∷ []) (length vs) i 0 refl l ∙ ap (λ k. get_or (v ∷ []) k 0) last
          ∙ sym (ap (λ b. cond b (get_or (v ∷ vs) (i + 1) 0) v) (le-ltb (i + 1) (length (v ∷ vs)) (omega arith)))
    ]

module _ (N : ℕ → ℕ → NamedStep → Type 0) (vs : List ℕ) (s : Steps) (laid : Laid N vs s) where
  whole : length (steps_of s) ≡ length vs
  whole = ap (λ k. length (take k s.laid)) laid.count ∙ length-take-le (length vs) s.laid laid.room

  at_place : (i : ℕ) → i < length vs → LaidAt N vs (get_or (steps_of s) i no_step) i
  at_place i h = subst (λ x. LaidAt N vs x i) (sym (get_or-take s.count s.laid i no_step (omega (arith, laid.count)))) (laid.each i h)

  pub laid_froms : froms (steps_of s) ≡ vs
  laid_froms =
      ext_get_or 0 _ vs (length-map _ _ ∙ whole)
      (λ i h. let k : i < length vs = omega (arith, length-map (steps_of s) (λ (t : Step). t.from), whole) in
      get_or-map (λ (t : Step). t.from) (steps_of s) i no_step 0 (omega (arith, whole)) ∙ (at_place i k).from)

  pub laid_tos : tos (steps_of s) ≡ turned (froms (steps_of s))
  laid_tos =
      ext_get_or 0 (tos (steps_of s)) (turned vs) (length-map _ _ ∙ whole ∙ sym (length_turned vs))
      (λ i h. let k : i < length vs = omega (arith, length-map (steps_of s) (λ (t : Step). t.to), whole) in
      get_or-map (λ (t : Step). t.to) (steps_of s) i no_step 0 (omega (arith, whole)) ∙ (at_place i k).to ∙ sym (turned_next vs i k))
      ∙ ap turned (sym laid_froms)

  pub laid_all : (P : Step → Type 0) → ((x : Step) → N x.from x.to (name_of x) → P x) → AllByRecursion P (steps_of s)
  laid_all P each =
      All-from_get_or P (steps_of s) no_step
      (λ i h. let at = at_place i (omega (arith, whole)) in
      each _ (subst (λ p. N p (get_or (steps_of s) i no_step).to (name_of (get_or (steps_of s) i no_step))) (sym at.from)
      (subst (λ q. N (get_or vs i 0) q (name_of (get_or (steps_of s) i no_step))) (sym at.to) at.named)))

  -- the steps of a shortest cycle
  pub laid_least : (R : ℕ → ℕ → Type 0) (m : Meaning) (es : List Event) (L : List ℕ) (v : Verdict) → Shortest R vs →
      ((x : Step) → N x.from x.to (name_of x) → Sound m es L v x) → LeastChain R m es L v (steps_of s)
  laid_least R m es L v short each = record {
    chain = record {
      some = omega (arith, whole, closed_some R vs short.cycle.closed);
      sound = laid_all (Sound m es L v) each;
      closed = laid_tos;
      once = subst Distinct (sym laid_froms) short.cycle.once;
    };
    least = record {
      fewest = λ us closed. omega (arith, whole, short.fewest us closed);
      lowest = subst Lowest (sym laid_froms) short.lowest;
    };
  }
