-- What a profile need not be asked, and where the pairs of a profile lie.
use Rattle.std.proofs.Common.{ℕ, ◌+◌, ◌<◌, List, length, arith}
use Rattle.graph.specs.declared.event.Event.{Event}
use Rattle.graph.specs.Order.{Po}
use Rattle.profiles.specs.Meaning.{Meaning}
use Rattle.profiles.specs.Laws.{Lawful}
use Rattle.axioms.specs.declared.table.EventTable.{EventTable}
use Rattle.axioms.specs.EventTables.{Says, Tells}
use Rattle.axioms.specs.Relations.{Kept, Pushed}

module _ (m : Meaning) (lawful : Lawful m) (es : List Event) (a b : ℕ) where
  pub pushed_ordered : Pushed m es a b → Po es a b
  pushed_ordered p = lawful.ordered es a b (lawful.narrower es a b p)

  -- The events of a kept pair, and of a pushed one, are present.
  pub kept_within : Kept m es a b → (a < length es + 8) × (b < length es + 8)
  kept_within k = let o = lawful.ordered es a b k in (omega (arith, o.earlier, o.added.1), o.added.1)

  pub pushed_within : Pushed m es a b → (a < length es + 8) × (b < length es + 8)
  pushed_within p = kept_within (lawful.narrower es a b p)

  -- A table of the kept pairs has each pushed one.
  pub pushed_says : (t : EventTable) → Tells (Unit {0}) (λ _. Kept m es) es t → Pushed m es a b → Says t a b
  pushed_says t kept p =
      let w = pushed_within p in
      let row : a < t.side = omega (arith, w.0, kept.side) in
      let column : b < t.side = omega (arith, w.1, kept.side) in
      record { row = row; column = column; is_yes = (kept.drawn tt a b row column).1 (lawful.narrower es a b p) }
