-- The clauses of marking, by what reading the layout and checking the truth answered.
--
--   Marked m es bs r   the clauses of `mark`, where it answers r
use Rattle.std.proofs.Common.{◌≡◌, ℕ, ◌+◌, ◌<◌, ◌≤◌, List, length, get_or, Ok, Err, Result, ap, arith, MatchResult}
use Rattle.graph.specs.declared.event.Event.{Event}
use Rattle.graph.specs.declared.refusal.Refused.{Refused}
use Rattle.graph.specs.Proper.{Proper}
use Rattle.profiles.specs.Meaning.{Meaning}
use Rattle.sheets.specs.declared.layout.Layout.{Layout}
use Rattle.sheets.specs.Layouts as layouts
use Rattle.sheets.specs.Layouts.{Laid, steps_at}
use Rattle.sheets.specs.Sheets.{Sheet, encode}
use Rattle.sheets.specs.Truth.{TrueOf}
use Rattle.sheets.specs.WellLaid.{WellLaid, Told}
use Rattle.sheets.proofs.Bytes.{length_steps}
use Rattle.marking.specs.Marking.{order_part, truth_checks, Marks}
use Rattle.marking.specs.Passing.{Passes, Decided}
use Rattle.marking.proofs.Blaming.{Blamed, none_blamed}
use Rattle.marking.proofs.Firsts.{NoneOf, passes_all, none_from_passed, never_refused, refused_before, decided_behind}
use Rattle.marking.proofs.Once.{marks_once}
use Rattle.marking.proofs.Parts.{parts_of}
use Rattle.marking.proofs.Presence.{true_well_laid}
use Rattle.marking.proofs.Truths.{true_upright}

pub record Marked (m : Meaning) (es : List Event) (bs : List ℕ) (r : Result (Unit {0}) Refused) : Type 0 where
  pub outcome : Marks m es bs r
  pub only : (other : Result (Unit {0}) Refused) → Marks m es bs other → other ≡ r
  pub told : MatchResult r (λ _. Passes m es bs) (λ _. Passes m es bs → ⊥)

-- A section counts its entries in one byte.
pub few_steps : (present : ℕ) (bs : List ℕ) (l : Layout) → Told present bs l → ((i : ℕ) → get_or bs i 0 < 256) → length l.steps.now ≤ 1275
few_steps present bs l t bytes =
    omega (arith, ap length t.steps, length_steps t.sheet.steps, (parts_of bs t.sheet t.encoded).count, bytes (steps_at bs))

module _ (m : Meaning) (es : List Event) (bs : List ℕ) where
  abbrev cs : List (Refused → Type 0)
  cs = layouts.checks (length es + 8) bs

  abbrev ds : List (Refused → Type 0)
  ds = truth_checks m es bs (order_part bs)

  marked : (r : Result (Unit {0}) Refused) → Marks m es bs r → MatchResult r (λ _. Passes m es bs) (λ _. Passes m es bs → ⊥) → Marked m es bs r
  marked r outcome told = record { outcome = outcome; only = λ other o. marks_once m es bs other r o outcome; told = told }

  refused_layout : (e : Refused) → Laid (length es + 8) bs (Err e) → Marks m es bs (Err e)
  unfolding Laid Marks
  refused_layout e laid = refused_before Layout (Unit {0}) cs ds e laid

  pub by_layout : (e : Refused) → Proper es → Laid (length es + 8) bs (Err e) →
      ((s : Sheet) → bs ≡ encode s → WellLaid (length es + 8) s → ⊥) → Marked m es bs (Err e)
  by_layout e proper laid not-laid =
      marked (Err e) (refused_layout e laid) (λ p. not-laid p.sheet p.encoded (true_well_laid m es proper p.sheet p.true_of))

  laid_none : (l : Layout) → Laid (length es + 8) bs (Ok l) → NoneOf cs
  unfolding Laid
  laid_none l laid = none_from_passed cs l laid

  passed_truth : (s : Sheet) → bs ≡ encode s → NoneOf cs → TrueOf m es s → Marks m es bs (Ok tt)
  unfolding Marks
  passed_truth s is none true =
      decided_behind cs ds (Ok tt) none (passes_all ds tt (none_blamed m es bs s (parts_of bs s is) (true_upright m es s true)))

  refused_truth : (e : Refused) → NoneOf cs → Blamed m es bs e → Marks m es bs (Err e)
  unfolding Marks
  refused_truth e none blamed = decided_behind cs ds (Err e) none blamed

  -- What is refused is not true.
  not_true : (s : Sheet) → bs ≡ encode s → (e : Refused) → Blamed m es bs e → TrueOf m es s → ⊥
  not_true s is e blamed true =
      never_refused (Unit {0}) ds e (none_blamed m es bs s (parts_of bs s is) (true_upright m es s true)) blamed

  pub by_truth : (l : Layout) → Laid (length es + 8) bs (Ok l) → (t : Told (length es + 8) bs l) → (r : Result (Unit {0}) Refused) →
      Decided (TrueOf m es t.sheet) ds r → Marked m es bs r
  by_truth l laid t (Ok tt) true =
      marked (Ok tt) (passed_truth t.sheet t.encoded (laid_none l laid) true) (record { sheet = t.sheet; encoded = t.encoded; true_of = true })
  by_truth l laid t (Err e) blamed =
      marked (Err e) (refused_truth e (laid_none l laid) blamed) (λ p. not_true p.sheet p.encoded e blamed p.true_of)
