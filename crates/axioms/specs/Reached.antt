-- What is reached by steps of program order and reads-from, and the cycles of such steps.
--
--   Reached es t              the table t tells what reaches what among the added events es and the initial writes
--   ReachedAmong t P          P holds of all added events whose table is t
--   ShortestSourceCycle       what `source_cycle` answers, where its buffer held old before and holds new after: a shortest
--                             cycle or none, or a refusal that leaves the buffer as it was
use Rattle.std.specs.Prelude.{◌≡◌, ℕ, ◌+◌, ◌≤◌, List, length, Option, Result, MatchResult}
use Rattle.measures.specs.declared.settling.Refusal.{Refusal}
use Rattle.measures.specs.Walks.{Leads}
use Rattle.cycles.specs.Answers.{CycleOrNone}
use Rattle.graph.specs.declared.event.Event.{Event}
use Rattle.axioms.specs.declared.source_reach.SourceReach.{SourceReach}
use Rattle.axioms.specs.Tables.{TooMany}
use Rattle.axioms.specs.Relations.{SourceStep}
use Rattle.axioms.specs.Tables.{Drawn}

pub record Reached (es : List Event) (t : SourceReach) : Type 0 where
  pub side : t.table.side ≡ length es + 8
  pub tells : Drawn (Leads (SourceStep es)) t.table.side t.table.cells

abbrev pub ReachedAmong : SourceReach → (List Event → Type 0) → Type 0
ReachedAmong t P = (es : List Event) → Reached es t → P es

abbrev pub ShortestSourceCycle : List Event → List ℕ → List ℕ → Result (Option ℕ) Refusal → Type 0
ShortestSourceCycle es old new r =
    MatchResult r (λ o. (length es ≤ 56) × CycleOrNone (SourceStep es) old new o) (λ why. TooMany es why × (new ≡ old))
