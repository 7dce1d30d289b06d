-- How a graph stands in memory: the slice of events, how many are added, the log and its length.
--
--   room_of es    how many events can be added in the slice es
--   Logged        the log has, for each standing step, what undoes it
--   Tells         the memory is as the steps hs tell
--   Ever-proper   the events were proper after each of the steps
--   Told          some steps tell the memory, and its events were always proper
--   undone hs es  the slice es once the newest of the steps hs is taken back; the record of an
--                 added event keeps its content
use Rattle.std.specs.Prelude.{◌≡◌, ℕ, ◌+◌, ◌<◌, ◌≤◌, min, List, [], ◌∷◌, length, take, slice_index_or}
use Rattle.graph.specs.declared.event.Event.{Event}
use Rattle.graph.specs.declared.undo.Undo.{Undo}
use Rattle.graph.specs.declared.undo.Undo.TheVariants.{Added, Sourced}
use Rattle.graph.specs.Events.{event}
use Rattle.graph.specs.History.{Step, added, sourced, graph, resource}
use Rattle.graph.specs.Proper.{Proper}

abbrev pub room_of : List Event → ℕ
room_of es = min 56 (length es)

abbrev pub Logged : List Undo → List Step → Type 0
Logged log [] = Unit {0}
Logged log (added t c l v ∷ hs) = (slice_index_or log (length hs) Added ≡ Added) × Logged log hs
Logged log (sourced r w ∷ hs) =
    (slice_index_or log (length hs) Added ≡ Sourced r (event (graph hs) r).source) × ((8 ≤ r) × (r < length (graph hs) + 8)) × Logged log hs

pub record Tells (es : List Event) (count : ℕ) (log : List Undo) (standing : ℕ) (hs : List Step) : Type 0 where
  pub events : graph hs ≡ take count es
  pub within : count ≤ room_of es
  pub steps : standing ≡ length hs
  pub few : standing ≤ 256
  pub size : length log ≡ 256
  pub logged : Logged log hs

abbrev pub Ever-proper : List Step → Type 0
Ever-proper [] = Unit {0}
Ever-proper (s ∷ hs) = Proper (graph (s ∷ hs)) × Ever-proper hs

abbrev pub Told : List Event → ℕ → List Undo → ℕ → Type 0
Told es count log standing = ∥ ((hs : List Step) × (Tells es count log standing hs × Ever-proper hs)) ∥₁

abbrev pub undone : List Step → List Event → List Event
undone [] es = es
undone (added t c l v ∷ hs) es = es
undone (sourced r w ∷ hs) es = resource es r (event (graph hs) r).source
