-- What is found of the parts of a sheet that is true, and that a sheet is true of whose parts it is found.
--
--   OrderedBy v es L    the verdict is a source cycle; or there is none, and L is lawful
--   Upright m es s      what is found of a true sheet s
use Rattle.std.proofs.Common.{◌≡◌, ℕ, ◌⊎◌, List, [], ◌∷◌, length, get_or, sym, refl, subst, inl, inr, arith}
use Rattle.std.specs.List.{flat_map, AllByRecursion}
use Rattle.std.proofs.ByRecursion.{All-get_or, All-from_get_or}
use Rattle.graph.specs.declared.event.Event.{Event}
use Rattle.profiles.specs.Meaning.{Meaning}
use Rattle.axioms.specs.Relations as axioms
use Rattle.axioms.specs.Rules.{Unused}
use Rattle.axioms.specs.declared.rule.Rule.{Rule}
use Rattle.axioms.specs.declared.rule.Rule.TheVariants.{ProgramOrder, ReadsFrom, Coww, Cowr, Corw, Corr}
use Rattle.cycles.specs.Cycles.{Distinct}
use Rattle.sheets.specs.declared.step.Step.{Step}
use Rattle.sheets.specs.declared.verdict.Verdict.{Verdict}
use Rattle.sheets.specs.declared.verdict.Verdict.TheVariants.{Clear, SourceCycle, CoherenceCycle}
use Rattle.sheets.specs.Faults.{ReaderAt}
use Rattle.sheets.specs.Layouts.{RightCount}
use Rattle.sheets.specs.Sheets.{Sheet}
use Rattle.sheets.specs.Steps.{readers, step_bytes}
use Rattle.sheets.specs.Truth.{Sound, Ordered, Shows, TrueOf}
use Rattle.sheets.specs.WellLaid.{WellNamed, WellLaid, froms, tos, turned}
use Rattle.sheets.proofs.Places.{stands_once, stands_joined}
use Rattle.marking.specs.Marking.{AllHold}
use Rattle.marking.proofs.Failing.{none, HoldsFor}

abbrev pub OrderedBy : Verdict → List Event → List ℕ → Type 0
OrderedBy v es L = (v ≡ SourceCycle) ⊎ Ordered es L

abbrev StepsHold : Meaning → List Event → List ℕ → List Step → Type 0
StepsHold m es L ts = AllHold m es L (flat_map step_bytes ts) (length ts)

pub record Upright (m : Meaning) (es : List Event) (s : Sheet) : Type 0 where
  pub pushing : axioms.PushOrder m es s.order
  pub ordered : OrderedBy s.verdict es s.order
  pub hold : StepsHold m es s.order s.steps
  pub clear : s.verdict ≡ Clear → axioms.CoherenceCycle m es s.order → ⊥

-- A reader that is not named is 255.
unused_from : (present : ℕ) (x : Rule) (r s : ℕ) → ReaderAt present (readers x) 0 r → ReaderAt present (readers x) 1 s → Unused x r s
unused_from present ProgramOrder r s a b = (a.1 (omega arith), b.1 (omega arith))
unused_from present ReadsFrom r s a b = (a.1 (omega arith), b.1 (omega arith))
unused_from present Coww r s a b = (a.1 (omega arith), b.1 (omega arith))
unused_from present Cowr r s a b = b.1 (omega arith)
unused_from present Corw r s a b = b.1 (omega arith)
unused_from present Corr r s a b = tt

no_steps : (ts : List Step) → length ts ≡ 0 → ts ≡ []
no_steps [] e = refl
no_steps (t ∷ ts) e = absurd (omega arith)

module _ (m : Meaning) (es : List Event) (L : List ℕ) where
  sound_steps : (present : ℕ) (v : Verdict) (ts : List Step) → AllByRecursion (WellNamed present v) ts → StepsHold m es L ts → AllByRecursion (Sound m es L v) ts
  sound_steps present v ts named hold =
      All-from_get_or (Sound m es L v) ts none (λ k h.
      let t = get_or ts k none in
      let well = All-get_or (WellNamed present v) ts k none h named in
      let found = hold k h in
      let same = stands_once (flat_map step_bytes ts) k found.step t found.stands (stands_joined ts k none h) in
      record {
        belongs = well.belongs;
        holds = subst (HoldsFor m es L) same found.holds;
        unused = unused_from present t.rule t.reader t.second well.first_reader well.second_reader;
      })

  held : (v : Verdict) (ts : List Step) → AllByRecursion (Sound m es L v) ts → StepsHold m es L ts
  held v ts sound k h = record {
    step = get_or ts k none;
    stands = stands_joined ts k none h;
    holds = (All-get_or (Sound m es L v) ts k none h sound).holds;
  }

  shown : (v : Verdict) (ts : List Step) → RightCount v (length ts) → AllByRecursion (Sound m es L v) ts → tos ts ≡ turned (froms ts) → Distinct (froms ts) →
      OrderedBy v es L → (v ≡ Clear → axioms.CoherenceCycle m es L → ⊥) → Shows m es L v ts
  shown Clear ts count sound closed once (inl e) clear = let z : ◌≡◌ {A = ℕ} 0 1 = cc in absurd (omega arith)
  shown Clear ts count sound closed once (inr o) clear = (o, (clear refl, no_steps ts count))
  shown SourceCycle ts count sound closed once o clear = record { some = count; sound = sound; closed = closed; once = once }
  shown CoherenceCycle ts count sound closed once (inl e) clear = let z : ◌≡◌ {A = ℕ} 0 1 = cc in absurd (omega arith)
  shown CoherenceCycle ts count sound closed once (inr o) clear =
      (o, record { some = count; sound = sound; closed = closed; once = once })

  shows_ordered : (v : Verdict) (ts : List Step) → Shows m es L v ts → OrderedBy v es L
  shows_ordered Clear ts h = inr h.0
  shows_ordered SourceCycle ts h = inl refl
  shows_ordered CoherenceCycle ts h = inr h.0

  shows_held : (v : Verdict) (ts : List Step) → Shows m es L v ts → StepsHold m es L ts
  shows_held Clear ts h = subst (StepsHold m es L) (sym h.1.1) (λ k l. absurd (omega arith))
  shows_held SourceCycle ts h = held SourceCycle ts h.sound
  shows_held CoherenceCycle ts h = held CoherenceCycle ts h.1.sound

  shows_clear : (v : Verdict) (ts : List Step) → Shows m es L v ts → v ≡ Clear → axioms.CoherenceCycle m es L → ⊥
  shows_clear Clear ts h e = h.1.0
  shows_clear SourceCycle ts h e = let z : ◌≡◌ {A = ℕ} 0 1 = cc in absurd (omega arith)
  shows_clear CoherenceCycle ts h e = let z : ◌≡◌ {A = ℕ} 0 1 = cc in absurd (omega arith)

pub upright_true : (m : Meaning) (es : List Event) (present : ℕ) (s : Sheet) → WellLaid present s → Upright m es s → TrueOf m es s
upright_true m es present s laid u = record {
  pushing = u.pushing;
  shows =
      shown m es s.order s.verdict s.steps laid.counted
      (sound_steps m es s.order present s.verdict s.steps laid.named u.hold) laid.closed laid.once u.ordered u.clear;
}

pub true_upright : (m : Meaning) (es : List Event) (s : Sheet) → TrueOf m es s → Upright m es s
true_upright m es s is = record {
  pushing = is.pushing;
  ordered = shows_ordered m es s.order s.verdict s.steps is.shows;
  hold = shows_held m es s.order s.verdict s.steps is.shows;
  clear = shows_clear m es s.order s.verdict s.steps is.shows;
}
