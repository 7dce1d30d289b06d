-- Calls on one graph, one after the other, by the plain history: `room` events can be added, and the steps hs stand before the first call.
--
--   after room hs cs        the steps that stand after the calls cs
--   answers room hs cs      the answers to the calls, in their order
--   rewritten c k hs es     what the slice es of a graph with k added events, which stood by the steps hs, holds once the call c is accepted
--   memory room hs es cs    what the slice holds after the calls, where it held es: an accepted call writes its record or its read's source, and nothing else is
--                           written. Taking back an addition writes nothing, so the record keeps its content
--   most room hs cs         the most events that were added at a time
use Rattle.std.specs.Prelude.{ℕ, max, cond, List, [], ◌∷◌, length, Some, is_ok, Result, slice_set}
use Rattle.graph.specs.declared.call.Call.{Call}
use Rattle.graph.specs.declared.call.Call.TheVariants.{Add, Source, TakeBack}
use Rattle.graph.specs.declared.event.Event.{Event}
use Rattle.graph.specs.declared.refusal.Refused.{Refused}
use Rattle.graph.specs.Events.{fresh}
use Rattle.graph.specs.History.{Step, graph, attempt, code_of, resource}
use Rattle.graph.specs.Memory.{undone}

abbrev pub after : ℕ → List Step → List Call → List Step
after room hs [] = hs
after room hs (c ∷ cs) = after room (attempt room hs c).steps cs

abbrev pub answers : ℕ → List Step → List Call → List (Result ℕ Refused)
answers room hs [] = []
answers room hs (c ∷ cs) = (attempt room hs c).answer ∷ answers room (attempt room hs c).steps cs

abbrev pub rewritten : Call → ℕ → List Step → List Event → List Event
rewritten (Add t n l v) k hs es = slice_set es k (fresh t (code_of n) l v)
rewritten (Source r w) k hs es = resource es r (Some w)
rewritten TakeBack k hs es = undone hs es

abbrev pub stored : ℕ → List Step → List Event → Call → List Event
stored room hs es c = cond (is_ok (attempt room hs c).answer) (rewritten c (length (graph hs)) hs es) es

abbrev pub memory : ℕ → List Step → List Event → List Call → List Event
memory room hs es [] = es
memory room hs es (c ∷ cs) = memory room (attempt room hs c).steps (stored room hs es c) cs

abbrev pub most : ℕ → List Step → List Call → ℕ
most room hs [] = length (graph hs)
most room hs (c ∷ cs) = max (length (graph hs)) (most room (attempt room hs c).steps cs)
