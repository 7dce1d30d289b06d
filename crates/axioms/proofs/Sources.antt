-- Where the steps of program order and reads-from lie, and what a table of the ways tells.
use Rattle.std.proofs.Common.{◌≡◌, ℕ, ◌+◌, ◌*◌, ◌<◌, Bool, List, length, Some, None, Ok, Err, Decides, Option, Result, sym, refl, ap, ◌∙◌, subst, inl, inr, arith}
use Rattle.std.proofs.lemmas.Bool.{cases_Bool}
use Rattle.std.proofs.lemmas.Bool.Decides.{Decides-like}
use Rattle.measures.specs.declared.settling.Refusal.{Refusal}
use Rattle.measures.specs.Walks.{Leads, last, more}
use Rattle.cycles.specs.Answers.{ShortestCycle}
use Rattle.cycles.specs.Cycles.{HasCycle}
use Rattle.graph.specs.declared.event.Event.{Event}
use Rattle.graph.specs.Codes.{is_read}
use Rattle.graph.specs.Events.{event, Present}
use Rattle.graph.specs.Order.{Names}
use Rattle.graph.specs.Proper.{Draws, Proper}
use Rattle.axioms.specs.declared.source_reach.SourceReach.{SourceReach}
use Rattle.axioms.specs.declared.table.EventTable.{EventTable}
use Rattle.axioms.specs.EventTables.{cells_of, Says, Tells, Settled}
use Rattle.axioms.specs.Reached.{Reached, ShortestSourceCycle}
use Rattle.axioms.specs.Relations.{SourceStep, SourceCycle}
use Rattle.axioms.specs.Tables.{Drawn}
use Rattle.axioms.proofs.Entries.{says_tells}
use Rattle.axioms.proofs.Fronts.{front_drawn}
use Rattle.axioms.proofs.Targets.{leads_target, settled_tells, cycle_tells}

pub source_target : (es : List Event) (a b : ℕ) → SourceStep es a b → b < length es + 8
source_target es a b (inl o) = o.added.1
source_target es a b (inr o) = o.added.1

named_present : (es : List Event) (l w : ℕ) (o : Option ℕ) → Draws es l o → Names o w → Present es w
named_present es l w (Some s) d e = subst (Present es) e d.0
named_present es l w None d e = absurd d

no_name : (o : Option ℕ) (w : ℕ) → o ≡ None → Names o w → ⊥
no_name o w e h = subst (λ x. Names x w) e h

-- The source of a read is present, so a step starts at a present event.
module _ (es : List Event) (proper : Proper es) where
  source_start : (a b : ℕ) → SourceStep es a b → a < length es + 8
  source_start a b (inl o) = omega (arith, o.earlier, o.added.1)
  source_start a b (inr o) =
      let fit = proper b o.added in
      elim (cases_Bool (is_read (event es b).code)) [
        | inl r ↦ named_present es (event es b).location a (event es b).source (fit.drawn r) o.source
        | inr r ↦ absurd (no_name (event es b).source a (fit.none r) o.source)
      ]

  pub leads_start : (b a : ℕ) → Leads (SourceStep es) a b → a < length es + 8
  leads_start b a (last s) = source_start a b s
  leads_start b a (more {v = v} s q) = source_start a v s

module _ (es : List Event) (t : SourceReach) (reached : Reached es t) where
  target : (b a : ℕ) → Leads (SourceStep es) a b → b < t.table.side
  target b a l = omega (arith, leads_target (SourceStep es) (length es + 8) (source_target es) b a l, reached.side)

  pub leads_told : Proper es → (a b : ℕ) (r : Bool) → Decides r (Says t.table a b) → Decides r (Leads (SourceStep es) a b)
  leads_told proper a b =
      says_tells (Leads (SourceStep es)) t.table reached.tells a b (λ l. (omega (arith, leads_start es proper b a l, reached.side), target b a l))

  pub cycle_told : (r : Bool) → Decides r ((a : ℕ) × Says t.table a a) → Decides r (SourceCycle es)
  cycle_told r =
      Decides-like r (λ h. (h.0, (reached.tells h.0 h.0 h.1.row h.1.column).0 h.1.is_yes))
      (λ c. let p = target c.0 c.0 c.1 in (c.0, record { row = p; column = p; is_yes = (reached.tells c.0 c.0 p p).1 c.1 }))

-- A settled table of the steps tells the ways.
pub settled_reach : (es : List Event) (t u : EventTable) → Tells (Unit {0}) (λ _. SourceStep es) es t → Settled t u → Reached es (record { table = u })
settled_reach es t u steps settled = record {
  side = settled.side ∙ steps.side;
  tells = subst (λ n. Drawn (Leads (SourceStep es)) n u.cells) (sym settled.side)
      (settled_tells (SourceStep es) t.side (λ a b s. omega (arith, source_target es a b s, steps.side)) t.cells (steps.drawn tt) u.cells settled.reach);
}

-- The settled table has a loop exactly where the table has a cycle.
says_start : (t : EventTable) (b a : ℕ) → Leads (Says t) a b → a < t.side
says_start t b a (last s) = s.row
says_start t b a (more s q) = s.row

pub loop_told : (t u : EventTable) → Settled t u → (r : Bool) → Decides r ((a : ℕ) × Says u a a) → Decides r (HasCycle (Says t))
loop_told t u settled r =
    let at_u = subst (λ k. Drawn (Leads (Says t)) k u.cells) (sym settled.side) settled.reach in
    Decides-like r (λ h. (h.0, (at_u h.0 h.0 h.1.row h.1.column).0 h.1.is_yes))
    (λ h.
    let p : h.0 < u.side = omega (arith, says_start t h.0 h.0 h.1, settled.side) in
    (h.0, record { row = p; column = p; is_yes = (at_u h.0 h.0 p p).1 h.1 }))

-- What is told of the cycles of a table of the steps is told of the steps.
module _ (es : List Event) (t : EventTable) (steps : Tells (Unit {0}) (λ _. SourceStep es) es t)
    (n : ℕ) (side : n ≡ t.side) (xs : List ℕ) (cells : xs ≡ cells_of t) (size : length xs ≡ t.side * t.side)
  where
    front_tells : Drawn (SourceStep es) n xs
    front_tells =
        subst (λ ys. Drawn (SourceStep es) n ys) (sym cells)
        (subst (λ k. Drawn (SourceStep es) k (cells_of t)) (sym side) (front_drawn t.side (t.side * t.side) t.cells refl (SourceStep es) (steps.drawn tt)))

    pub source_cycle_tells : (old new : List ℕ) (r : Result (Option ℕ) Refusal) → ShortestCycle n xs old new r → ShortestSourceCycle es old new r
    source_cycle_tells old new (Ok o) h = (
      omega (arith, t.small, steps.side),
      cycle_tells (SourceStep es) n (λ a b s. omega (arith, source_target es a b s, steps.side)) xs front_tells old new o h.1,
    )
    source_cycle_tells old new (Err why) h = absurd (h.unfit (omega (arith, t.small), size ∙ ap (λ k. k * k) (sym side)))
