-- A `Graph` and the plain history.
--
--   added_events g   the added events of the graph g
--   Holds g hs       the graph g stands as the steps hs tell
--   Meets g r out    the graph g and the answer r are those of the outcome
--   Does c g g' r    whatever steps the graph g stood by, the call c that left g' and answered r did as
--                    the history does
--   Leaves g g' r   whatever call on the graph g left g' and answered r: a refusal leaves all of g as it was, and g' has the
--                    slice that g was lent, of the same length
--   written c g hs   the slice of the graph g, which stood by the steps hs, once the call c is accepted
--   Equal g h        two graphs are equal: their added events are, with their sources
use Rattle.std.specs.Prelude.{◌≡◌, ℕ, true, List, length, take, Some, Result, is_err, slice_set}
use Rattle.graph.specs.declared.call.Call.{Call}
use Rattle.graph.specs.declared.call.Call.TheVariants.{Add, Source, TakeBack}
use Rattle.graph.specs.declared.event.Event.{Event}
use Rattle.graph.specs.declared.graph.Graph.{Graph}
use Rattle.graph.specs.declared.refusal.Refused.{Refused}
use Rattle.graph.specs.Events.{fresh}
use Rattle.graph.specs.History.{Step, Outcome, attempt, code_of, resource}
use Rattle.graph.specs.Memory.{Tells, room_of, undone}

abbrev pub added_events : Graph → List Event
added_events g = take g.count g.events.now

abbrev pub Holds : Graph → List Step → Type 0
Holds g hs = Tells g.events.now g.count g.log g.standing hs

abbrev pub Meets : Graph → Result ℕ Refused → Outcome → Type 0
Meets g r out = (r ≡ out.answer) × Holds g out.steps

abbrev pub Does : Call → Graph → Graph → Result ℕ Refused → Type 0
Does c g g' r = (hs : List Step) → Holds g hs → Meets g' r (attempt (room_of g.events.now) hs c)

pub record Leaves (g g' : Graph) (r : Result ℕ Refused) : Type 0 where
  pub same : is_err r ≡ true → g' ≡ g
  pub len : length g'.events.now ≡ length g.events.now
  pub lent : g'.events.ghost_name ≡ g.events.ghost_name

abbrev pub written : Call → Graph → List Step → List Event
written (Add t n l v) g hs = slice_set g.events.now g.count (fresh t (code_of n) l v)
written (Source r w) g hs = resource g.events.now r (Some w)
written TakeBack g hs = undone hs g.events.now

abbrev pub Equal : Graph → Graph → Type 0
Equal g h = added_events g ≡ added_events h
