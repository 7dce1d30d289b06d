-- No event passed so far reaches an earlier one.
use Rattle.std.proofs.Common.{ℕ, ◌<◌, List, get_or}
use Rattle.measures.specs.Walks.{Leads}
use Rattle.graph.specs.declared.event.Event.{Event}
use Rattle.graph.specs.Proper.{Proper}
use Rattle.axioms.specs.Reached.{Reached}
use Rattle.axioms.specs.Relations.{SourceStep}
use Rattle.axioms.proofs.source_reach.SourceReach.is_lawful.Given as goal

abbrev pub invariant-loop-later : goal.invariant-loop-later
invariant-loop-later l =
    (es : List Event) → Reached es l.self → Proper es →
    (j : ℕ) → j < l.later → (i : ℕ) → i < j → Leads (SourceStep es) (get_or l.list j 0) (get_or l.list i 0) → ⊥
