-- The plain history of a graph: the steps that stand, and what each call makes of them.
--
--   Step                an added event by thread, code, location and value, or a read and its new source
--   graph hs            the added events that the steps hs tell. The newest step stands first in hs;
--                       the steps are played from the oldest on
--   resource es n s     the events es, with s as the source of the added event n
--   code_of n           the code of number n
--   add_checks, source_checks   the checks of a call in their order: a test, and the refusal where it holds
--   first               the refusal of the first check that holds
--   attempt room hs c   what call c comes to where `room` events can be added and the steps hs stand:
--                       the answer, and the steps that stand then
use Rattle.std.specs.Prelude.{ℕ, ◌+◌, ◌-◌, Bool, cond, not, ◌&&◌, ◌||◌, List, [], ◌∷◌, ◌++◌, length, Some, None, Ok, Err, Option, Result, ◌==◌, nat_le, nat_lt, slice_index_or, slice_set}
use Rattle.graph.specs.declared.call.Call.{Call}
use Rattle.graph.specs.declared.call.Call.TheVariants.{Add, Source, TakeBack}
use Rattle.graph.specs.declared.code.Code.{Code}
use Rattle.graph.specs.declared.event.Event.{Event}
use Rattle.graph.specs.declared.refusal.Refusal.{Refusal}
use Rattle.graph.specs.declared.refusal.Refused.{Refused}
use Rattle.graph.specs.Codes.{codes, is_read, is_write, is_fence}
use Rattle.graph.specs.Events.{event, fresh, absent}
use Rattle.graph.specs.Refusals.{plain}

pub data Step : Type 0 where
  added : ℕ → Code → ℕ → ℕ → Step
  sourced : ℕ → ℕ → Step

abbrev pub with_source : Event → Option ℕ → Event
with_source e s = record { thread = e.thread; code = e.code; location = e.location; value = e.value; source = s }

abbrev pub resource : List Event → ℕ → Option ℕ → List Event
resource es n s = slice_set es (n - 8) (with_source (slice_index_or es (n - 8) absent) s)

unfoldable pub graph : List Step → List Event
graph [] = []
graph (added t c l v ∷ hs) = graph hs ++ fresh t c l v ∷ []
graph (sourced r w ∷ hs) = resource (graph hs) r (Some w)

abbrev pub code_of : ℕ → Code
code_of n = slice_index_or codes n absent.code

-- `count` events are added and `steps` steps stand; c is the code of number n
abbrev pub add_checks : ℕ → ℕ → ℕ → ℕ → ℕ → Code → ℕ → ℕ → List (Bool × Refusal)
add_checks room count steps t n c l v =
    (nat_lt 7 t, Refusal.ThreadTooHigh) ∷
    (nat_lt 10 n, Refusal.CodeTooHigh) ∷
    (nat_lt 7 l || (is_fence c && not (l == 0)), Refusal.BadLocation) ∷
    (not (is_write c) && not (v == 0), Refusal.BadValue) ∷
    (nat_le room count, Refusal.NoRoom) ∷
    (nat_le 256 steps, Refusal.StepsFull) ∷ []

-- the events es are added and `steps` steps stand
abbrev pub source_checks : List Event → ℕ → ℕ → ℕ → List (Bool × Refusal)
source_checks es steps r w =
    (nat_le (length es + 8) r || nat_le (length es + 8) w, Refusal.AbsentEvent) ∷
    (nat_lt r 8 || not (is_read (event es r).code), Refusal.NotAnAddedRead) ∷
    (not (is_write (event es w).code) || not ((event es w).location == (event es r).location), Refusal.NotItsWrite) ∷
    (nat_le 256 steps, Refusal.StepsFull) ∷ []

abbrev pub first : List (Bool × Refusal) → Option Refusal
first [] = None
first (x ∷ xs) = cond x.0 (Some x.1) (first xs)

pub record Outcome : Type 0 where
  pub answer : Result ℕ Refused
  pub steps : List Step

-- a refusal leaves the steps hs
abbrev pub unless : Option Refusal → List Step → Outcome → Outcome
unless (Some r) hs done = record { answer = Err (plain r); steps = hs }
unless None hs done = done

unfoldable pub attempt : ℕ → List Step → Call → Outcome
attempt room hs (Add t n l v) =
    unless (first (add_checks room (length (graph hs)) (length hs) t n (code_of n) l v)) hs
    (record { answer = Ok (length (graph hs) + 8); steps = added t (code_of n) l v ∷ hs })
attempt room hs (Source r w) =
    unless (first (source_checks (graph hs) (length hs) r w)) hs
    (record { answer = Ok (length hs + 1); steps = sourced r w ∷ hs })
attempt room [] TakeBack = record { answer = Err (plain Refusal.NoStep); steps = [] }
attempt room (s ∷ hs) TakeBack = record { answer = Ok (length hs); steps = hs }
