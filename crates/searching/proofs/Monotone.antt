-- Where a profile keeps more pairs, and a list has more push steps, there are more steps of visibility and of coherence, and
-- more cycles.
use Rattle.std.proofs.Common.{ℕ, List, inl, inr}
use Rattle.cycles.proofs.Carrying.{leads_carries, has_carries}
use Rattle.graph.specs.declared.event.Event.{Event}
use Rattle.profiles.specs.Meaning.{Meaning}
use Rattle.axioms.specs.Relations.{Kept, PushStep, Vvo, Visible, Holds, Co, CoherenceCycle}
use Rattle.axioms.specs.declared.rule.Rule.{Rule}
use Rattle.axioms.specs.declared.rule.Rule.TheVariants.{ProgramOrder, ReadsFrom, Coww, Cowr, Corw, Corr}

module _ (es : List Event) (m : Meaning) (L : List ℕ) (m' : Meaning) (L' : List ℕ)
    (kept : (a b : ℕ) → Kept m es a b → Kept m' es a b)
    (pushed : (a b : ℕ) → PushStep m es L a b → PushStep m' es L' a b)
  where
    pub more_vvo : (a b : ℕ) → Vvo m es L a b → Vvo m' es L' a b
    more_vvo a b (inl f) = inl f
    more_vvo a b (inr (inl k)) = inr (inl (kept a b k))
    more_vvo a b (inr (inr s)) = inr (inr (pushed a b s))

    pub more_visible : (a b : ℕ) → Visible m es L a b → Visible m' es L' a b
    more_visible a b (inl l) = inl (leads_carries (Vvo m es L) (Vvo m' es L') more_vvo b a l)
    more_visible a b (inr l) = inr l

    pub more_holds : (x : Rule) (p q r s : ℕ) → Holds m es L x p q r s → Holds m' es L' x p q r s
    more_holds ProgramOrder p q r s h = h
    more_holds ReadsFrom p q r s h = h
    more_holds Coww p q r s h = (h.0, more_visible p q h.1)
    more_holds Cowr p q r s h = (h.0, (h.1.0, more_visible p r h.1.1))
    more_holds Corw p q r s h =
        let b = h.1 in
        (h.0, record { reads = b.reads; location = b.location; visible = more_visible p r b.visible; before = b.before })
    more_holds Corr p q r s h = h

    pub more_co : (p q : ℕ) → Co m es L p q → Co m' es L' p q
    more_co p q c = record {
      rule = c.rule;
      coherence = c.coherence;
      reader = c.reader;
      second = c.second;
      holds = more_holds c.rule p q c.reader c.second c.holds;
    }

    pub more_cycles : CoherenceCycle m es L → CoherenceCycle m' es L'
    more_cycles = has_carries (Co m es L) (Co m' es L') more_co
