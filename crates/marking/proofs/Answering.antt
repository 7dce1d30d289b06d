-- What marking answers of a layout, where its list is a push order and what its verdict asks of the order holds.
use Rattle.std.proofs.Common.{◌≡◌, ℕ, ◌+◌, List, [], ◌∷◌, length, Ok, Err, Result, sym, subst}
use Rattle.std.specs.List.{flat_map}
use Rattle.graph.specs.declared.event.Event.{Event}
use Rattle.graph.specs.declared.refusal.Refused.{Refused}
use Rattle.profiles.specs.Meaning.{Meaning}
use Rattle.axioms.specs.Relations.{PushOrder, CoherenceCycle}
use Rattle.sheets.specs.declared.layout.Layout.{Layout}
use Rattle.sheets.specs.declared.verdict.Verdict.TheVariants.{Clear}
use Rattle.sheets.specs.Steps.{step_bytes}
use Rattle.sheets.specs.Truth.{TrueOf}
use Rattle.sheets.specs.WellLaid.{WellLaid, Told}
use Rattle.marking.specs.Marking.{order_part, AllHold, FailingStep, HasCoherenceCycle, Given, truth_checks}
use Rattle.marking.specs.Passing.{Decided}
use Rattle.marking.proofs.Blaming.{blamed_steps}
use Rattle.marking.proofs.Parts.{sheet_of, same_sheet, layout_parts}
use Rattle.marking.proofs.Truths.{OrderedBy, upright_true}

module _ (m : Meaning) (es : List Event) (bs : List ℕ) (l : Layout) (t : Told (length es + 8) bs l)
    (pushing : PushOrder m es l.order.now) (ordered : OrderedBy l.verdict es l.order.now) where
  abbrev L : List ℕ
  L = l.order.now

  abbrev ss : List ℕ
  ss = flat_map step_bytes t.sheet.steps

  abbrev n : ℕ
  n = length t.sheet.steps

  pub answered : (r : Result (Unit {0}) Refused) →
      Decided (AllHold m es L ss n × (l.verdict ≡ Clear → CoherenceCycle m es L → ⊥))
      (FailingStep m es L ss n ∷ Given (l.verdict ≡ Clear) (HasCoherenceCycle m es L) ∷ []) r →
      Decided (TrueOf m es t.sheet) (truth_checks m es bs (order_part bs)) r
  answered (Ok x) found =
      let same = same_sheet _ bs l t in
      subst (TrueOf m es) same
      (upright_true m es (length es + 8) (sheet_of l t.sheet.steps) (subst (WellLaid (length es + 8)) (sym same) t.well_laid)
      (record { pushing = pushing; ordered = ordered; hold = found.0; clear = found.1 }))
  answered (Err e) blamed = blamed_steps m es bs (sheet_of l t.sheet.steps) (layout_parts _ bs l t) pushing ordered e blamed
