-- Which check refuses a sheet first, and that none refuses one that is true.
--
--   Blamed m es bs e   e is the refusal of the first check behind the layout that gives one
use Rattle.std.proofs.Common.{◌≡◌, ℕ, ◌⊎◌, List, [], ◌∷◌, length, get_or, Err, sym, refl, ◌∙◌, subst, inl, inr, ⊎_elim, arith}
use Rattle.std.specs.List.{flat_map}
use Rattle.graph.specs.declared.event.Event.{Event}
use Rattle.graph.specs.declared.refusal.Refused.{Refused}
use Rattle.graph.specs.declared.refusal.Refusal.TheVariants.{NotThePushingEvents}
use Rattle.graph.specs.Refusals.{plain}
use Rattle.profiles.specs.Meaning.{Meaning}
use Rattle.axioms.specs.Relations.{PushOrder, CoherenceCycle}
use Rattle.sheets.specs.declared.verdict.Verdict.TheVariants as verdicts
use Rattle.sheets.specs.Checks.{FirstOf}
use Rattle.sheets.specs.Layouts.{Says, step_part, step_count}
use Rattle.sheets.specs.Sheets.{Sheet}
use Rattle.sheets.specs.Steps.{step_bytes}
use Rattle.sheets.proofs.Naming.{same_verdict}
use Rattle.marking.specs.Marking.{order_part, SaysOrdered, AllHold, NotPushing, HasSourceCycle, Unlawful, FailingStep, HasCoherenceCycle, Given, truth_checks}
use Rattle.marking.proofs.Firsts.{NoneOf}
use Rattle.marking.proofs.Parts.{Parted}
use Rattle.marking.proofs.Truths.{OrderedBy, Upright}

abbrev pub Blamed : Meaning → List Event → List ℕ → Refused → Type 0
Blamed m es bs e = FirstOf {X = Unit {0}} (truth_checks m es bs (order_part bs)) (Err e)

pub says_ordered : (bs : List ℕ) (s : Sheet) → Parted bs s → (s.verdict ≡ verdicts.Clear) ⊎ (s.verdict ≡ verdicts.CoherenceCycle) → SaysOrdered bs
says_ordered bs s p = ⊎_elim (λ e. inl (subst (Says bs) e p.says)) (λ e. inr (subst (Says bs) e p.says))

module _ (m : Meaning) (es : List Event) (bs : List ℕ) (s : Sheet) (p : Parted bs s) where
  abbrev L : List ℕ
  L = s.order

  abbrev ss : List ℕ
  ss = flat_map step_bytes s.steps

  -- The checks by the parts of the sheet serve for those of the bytes.
  at_list : (e : Refused) → FirstOf {X = Unit {0}} (truth_checks m es bs L) (Err e) → Blamed m es bs e
  at_list e = subst (λ M. FirstOf {X = Unit {0}} (truth_checks m es bs M) (Err e)) (sym p.order)

  in_bytes : (e : Refused) → FailingStep m es L ss (length s.steps) e → FailingStep m es L (step_part bs) (step_count bs) e
  in_bytes e f =
      subst (λ n. FailingStep m es L (step_part bs) n e) (sym p.count)
      (subst (λ xs. FailingStep m es L xs (length s.steps) e) (sym p.steps) f)

  in_sheet : (e : Refused) → FailingStep m es L (step_part bs) (step_count bs) e → FailingStep m es L ss (length s.steps) e
  in_sheet e f =
      subst (λ n. FailingStep m es L ss n e) p.count (subst (λ xs. FailingStep m es L xs (step_count bs) e) p.steps f)

  is_clear : Says bs verdicts.Clear → s.verdict ≡ verdicts.Clear
  is_clear says = same_verdict s.verdict verdicts.Clear (p.says ∙ sym says)

  no_source_verdict : s.verdict ≡ verdicts.SourceCycle → SaysOrdered bs → ⊥
  no_source_verdict e says =
      let one : 1 ≡ get_or bs 0 0 = subst (Says bs) e p.says in
      ⊎_elim (λ zero. omega arith) (λ two. omega arith) says

  no_list : PushOrder m es L → (e : Refused) → NotPushing m es L e → ⊥
  no_list pushing e h = h.0 pushing

  no_source : OrderedBy s.verdict es L → (e : Refused) → Given (SaysOrdered bs) (HasSourceCycle es) e → ⊥
  no_source ordered e h = ⊎_elim (λ v. no_source_verdict v h.0) (λ o. o.sources h.1.0) ordered

  no_unlawful : OrderedBy s.verdict es L → (e : Refused) → Given (SaysOrdered bs) (Unlawful es L) e → ⊥
  no_unlawful ordered e h = ⊎_elim (λ v. no_source_verdict v h.0) (λ o. h.1.0 o.lawful) ordered

  no_failing : AllHold m es L ss (length s.steps) → (e : Refused) → FailingStep m es L (step_part bs) (step_count bs) e → ⊥
  no_failing hold e h = let f = in_sheet e h in f.first.fails (hold f.place f.first.within)

  no_coherence : (s.verdict ≡ verdicts.Clear → CoherenceCycle m es L → ⊥) → (e : Refused) → Given (Says bs verdicts.Clear) (HasCoherenceCycle m es L) e → ⊥
  no_coherence clear e h = clear (is_clear h.0) h.1.0

  pub none_blamed : Upright m es s → NoneOf (truth_checks m es bs (order_part bs))
  none_blamed u =
      subst (λ M. NoneOf (truth_checks m es bs M)) (sym p.order)
      (no_list u.pushing, (no_source u.ordered, (no_unlawful u.ordered, (no_failing u.hold, (no_coherence u.clear, tt)))))

  pub blamed_list : (e : Refused) → (PushOrder m es L → ⊥) → e ≡ plain NotThePushingEvents → Blamed m es bs e
  blamed_list e wrong is = at_list e (inl (e, ((wrong, is), refl)))

  pub blamed_order : PushOrder m es L → (e : Refused) → SaysOrdered bs → FirstOf {X = Unit {0}} (HasSourceCycle es ∷ Unlawful es L ∷ []) (Err e) →
      Blamed m es bs e
  blamed_order pushing e says (inl q) = at_list e (inr (no_list pushing, inl (q.0, ((says, q.1.0), q.1.1))))
  blamed_order pushing e says (inr (none, inl q)) =
      at_list e (inr (no_list pushing, inr (λ d h. none d h.1, inl (q.0, ((says, q.1.0), q.1.1)))))
  blamed_order pushing e says (inr (none, inr q)) = let z : ◌≡◌ {A = ℕ} 0 1 = cc q.1 in absurd (omega arith)

  pub blamed_steps : PushOrder m es L → OrderedBy s.verdict es L → (e : Refused) →
      FirstOf {X = Unit {0}} (FailingStep m es L ss (length s.steps) ∷ Given (s.verdict ≡ verdicts.Clear) (HasCoherenceCycle m es L) ∷ []) (Err e) → Blamed m es bs e
  blamed_steps pushing ordered e (inl q) =
      at_list e (inr (no_list pushing, inr (no_source ordered, inr (no_unlawful ordered, inl (q.0, (in_bytes q.0 q.1.0, q.1.1))))))
  blamed_steps pushing ordered e (inr (none, inl q)) =
      at_list e
      (inr (
        no_list pushing,
        inr (
          no_source ordered,
          inr (
            no_unlawful ordered,
            inr (λ d h. none d (in_sheet d h), inl (q.0, ((subst (Says bs) q.1.0.0 p.says, q.1.0.1), q.1.1))),
          ),
        ),
      ))
  blamed_steps pushing ordered e (inr (none, inr q)) = let z : ◌≡◌ {A = ℕ} 0 1 = cc q.1 in absurd (omega arith)
