-- A sheet that is true of a graph is well laid out: its steps name present events and their readers.
use Rattle.std.proofs.Common.{◌≡◌, ℕ, ◌+◌, ◌<◌, ◌≤◌, List, [], ◌∷◌, length, sym, refl, subst, inr, arith}
use Rattle.std.specs.List.{AllByRecursion}
use Rattle.measures.specs.Walks.{last}
use Rattle.graph.specs.declared.event.Event.{Event}
use Rattle.graph.specs.Events.{Present}
use Rattle.graph.specs.Order.{Rf}
use Rattle.graph.specs.Proper.{Proper}
use Rattle.profiles.specs.Meaning.{Meaning}
use Rattle.axioms.specs.Relations.{Holds}
use Rattle.axioms.specs.Rules.{Unused}
use Rattle.axioms.specs.declared.rule.Rule.{Rule}
use Rattle.axioms.specs.declared.rule.Rule.TheVariants.{ProgramOrder, ReadsFrom, Coww, Cowr, Corw, Corr}
use Rattle.axioms.proofs.Sources.{leads_start}
use Rattle.coherence.proofs.Sighting.{write_present}
use Rattle.sheets.specs.declared.step.Step.{Step}
use Rattle.sheets.specs.declared.verdict.Verdict.{Verdict}
use Rattle.sheets.specs.declared.verdict.Verdict.TheVariants.{Clear, SourceCycle, CoherenceCycle}
use Rattle.sheets.specs.Faults.{ReaderAt}
use Rattle.sheets.specs.Layouts.{RightCount}
use Rattle.sheets.specs.Sheets.{Sheet}
use Rattle.sheets.specs.Steps.{readers}
use Rattle.sheets.specs.Truth.{Sound, Chain, Shows, TrueOf}
use Rattle.sheets.specs.WellLaid.{WellNamed, WellLaid, froms, tos, turned}
use Rattle.cycles.specs.Cycles.{Distinct}

module _ (m : Meaning) (es : List Event) (proper : Proper es) (L : List ℕ) where
  taken_present : (w r : ℕ) → Rf es w r → Present es w
  taken_present w r rf = leads_start es proper r w (last (inr rf))

  starts_present : (x : Rule) (p q r s : ℕ) → Holds m es L x p q r s → Present es p
  starts_present ProgramOrder p q r s h = omega (arith, h.earlier, h.added.1)
  starts_present ReadsFrom p q r s h = taken_present p q h
  starts_present Coww p q r s h = write_present es p h.0.first
  starts_present Cowr p q r s h = write_present es p h.0.first
  starts_present Corw p q r s h = write_present es p h.0.first
  starts_present Corr p q r s h = write_present es p h.0.first

  leads_present : (x : Rule) (p q r s : ℕ) → Holds m es L x p q r s → Present es q
  leads_present ProgramOrder p q r s h = h.added.1
  leads_present ReadsFrom p q r s h = h.added.1
  leads_present Coww p q r s h = write_present es q h.0.second
  leads_present Cowr p q r s h = write_present es q h.0.second
  leads_present Corw p q r s h = write_present es q h.0.second
  leads_present Corr p q r s h = write_present es q h.0.second

  abbrev There : ℕ → ℕ → ℕ → Type 0
  There k j r = ReaderAt (length es + 8) k j r

  named : (k j r : ℕ) → j < k → Present es r → There k j r
  named k j r h there = (λ _. there, λ l. absurd (omega arith))

  unnamed : (k j r : ℕ) → k ≤ j → r ≡ 255 → There k j r
  unnamed k j r h none = (λ l. absurd (omega arith), λ _. none)

  first_present : (x : Rule) (p q r s : ℕ) → Holds m es L x p q r s → Unused x r s → There (readers x) 0 r
  first_present ProgramOrder p q r s h u = unnamed 0 0 r (omega arith) u.0
  first_present ReadsFrom p q r s h u = unnamed 0 0 r (omega arith) u.0
  first_present Coww p q r s h u = unnamed 0 0 r (omega arith) u.0
  first_present Cowr p q r s h u = named 1 0 r (omega arith) h.1.0.added.1
  first_present Corw p q r s h u = named 1 0 r (omega arith) (omega (arith, h.1.before.earlier, h.1.before.added.1))
  first_present Corr p q r s h u = named 2 0 r (omega arith) h.1.0.added.1

  second_present : (x : Rule) (p q r s : ℕ) → Holds m es L x p q r s → Unused x r s → There (readers x) 1 s
  second_present ProgramOrder p q r s h u = unnamed 0 1 s (omega arith) u.1
  second_present ReadsFrom p q r s h u = unnamed 0 1 s (omega arith) u.1
  second_present Coww p q r s h u = unnamed 0 1 s (omega arith) u.1
  second_present Cowr p q r s h u = unnamed 1 1 s (omega arith) u
  second_present Corw p q r s h u = unnamed 1 1 s (omega arith) u
  second_present Corr p q r s h u = named 2 1 s (omega arith) h.1.1.1.added.1

  sound_named : (v : Verdict) (t : Step) → Sound m es L v t → WellNamed (length es + 8) v t
  sound_named v t sound = record {
    start = starts_present t.rule t.from t.to t.reader t.second sound.holds;
    end = leads_present t.rule t.from t.to t.reader t.second sound.holds;
    belongs = sound.belongs;
    first_reader = first_present t.rule t.from t.to t.reader t.second sound.holds sound.unused;
    second_reader = second_present t.rule t.from t.to t.reader t.second sound.holds sound.unused;
  }

  all_named : (v : Verdict) (ts : List Step) → AllByRecursion (Sound m es L v) ts → AllByRecursion (WellNamed (length es + 8) v) ts
  all_named v [] sound = tt
  all_named v (t ∷ ts) sound = (sound_named v t sound.0, all_named v ts sound.1)

  abbrev Laid : Verdict → List Step → Type 0
  Laid v ts = RightCount v (length ts) × (AllByRecursion (WellNamed (length es + 8) v) ts × ((tos ts ≡ turned (froms ts)) × Distinct (froms ts)))

  chain_laid : (v : Verdict) (ts : List Step) → RightCount v (length ts) → Chain m es L v ts → Laid v ts
  chain_laid v ts right chain = (right, (all_named v ts chain.sound, (chain.closed, chain.once)))

  shows_laid : (v : Verdict) (ts : List Step) → Shows m es L v ts → Laid v ts
  shows_laid Clear ts h = subst (Laid Clear) (sym h.1.1) (refl, (tt, (refl, tt)))
  shows_laid SourceCycle ts h = chain_laid SourceCycle ts h.some h
  shows_laid CoherenceCycle ts h = chain_laid CoherenceCycle ts h.1.some h.1

pub true_well_laid : (m : Meaning) (es : List Event) → Proper es → (s : Sheet) → TrueOf m es s → WellLaid (length es + 8) s
true_well_laid m es proper s is =
    let h = shows_laid m es proper s.order s.verdict s.steps is.shows in
    record { counted = h.0; named = h.1.0; closed = h.1.1.0; once = h.1.1.1 }
