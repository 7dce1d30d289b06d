-- Entries: calls with the places of their answers.
--
--   call, answer              the parts of an entry
--   Performed es hs g xs ys   the calls of the entries xs were made on a graph with the slice es, which stood by the steps hs; then the graph is g and the
--                             entries are ys:
--     calls                     the entries have the calls that they had
--     answered                  and the answers of the plain history
--     stands, front             the graph stands as the plain history tells, and the front of the slice holds its events
--     slice                     the slice holds what the history tells: a record that was taken back keeps its content
--     unreached                 a record that no event reached is as it was
use Rattle.std.specs.Prelude.{◌≡◌, ℕ, ◌≤◌, List, map, Result, slice_index_or}
use Rattle.graph.specs.declared.call.Call.{Call}
use Rattle.graph.specs.declared.event.Event.{Event}
use Rattle.graph.specs.declared.graph.Graph.{Graph}
use Rattle.graph.specs.declared.refusal.Refused.{Refused}
use Rattle.graph.specs.Events.{absent}
use Rattle.graph.specs.History.{Step, graph}
use Rattle.graph.specs.Holds.{Holds, added_events}
use Rattle.graph.specs.Memory.{room_of}
use Rattle.marker.specs.declared.entries.Entry.{Entry}
use Rattle.marker.specs.Calls.{after, answers, memory, most}

abbrev pub call : Entry → Call
call e = e.call

abbrev pub answer : Entry → Result ℕ Refused
answer e = e.answer

pub record Performed (es : List Event) (hs : List Step) (g : Graph) (xs ys : List Entry) : Type 0 where
  pub calls : map call ys ≡ map call xs
  pub answered : map answer ys ≡ answers (room_of es) hs (map call xs)
  pub stands : Holds g (after (room_of es) hs (map call xs))
  pub front : added_events g ≡ graph (after (room_of es) hs (map call xs))
  pub slice : g.events.now ≡ memory (room_of es) hs es (map call xs)
  pub unreached : (k : ℕ) → most (room_of es) hs (map call xs) ≤ k → slice_index_or g.events.now k absent ≡ slice_index_or es k absent
