-- One thread of a list of events, read with neither numbers nor sources.
--
--   Sketch            an event without its source
--   sketch e          the sketch of e
--   in_thread t es    the events of es that are of thread t, in order
--   codes_of t es     their codes
--   alone es b        b's thread up to b and with it, in order
--   sequence es b     the same without sources
--   place es a b      where a stands in that: the number that a has if every other thread is left
--                     out. So an initial write keeps its number, and the first event of b's
--                     thread stands at 8
--   Alike xs a b ys c d   the pair a, b of xs and the pair c, d of ys are in program order, and
--                     they are alike: the same sequence, and the same place in it
use Rattle.std.specs.Prelude.{◌≡◌, ℕ, ◌+◌, ◌-◌, cond, List, map, length, take, filter, nat_eq, nat_lt}
use Rattle.graph.specs.declared.code.Code.{Code}
use Rattle.graph.specs.declared.event.Event.{Event}
use Rattle.graph.specs.Events.{event}
use Rattle.graph.specs.Order.{Po}

pub record Sketch : Type 0 where
  pub thread : ℕ
  pub code : Code
  pub location : ℕ
  pub value : ℕ

abbrev pub sketch : Event → Sketch
sketch e = record { thread = e.thread; code = e.code; location = e.location; value = e.value }

abbrev pub in_thread : ℕ → List Event → List Event
in_thread t es = filter (λ e. nat_eq e.thread t) es

abbrev pub codes_of : ℕ → List Event → List Code
codes_of t es = map (λ e. e.code) (in_thread t es)

-- the events numbered 8 to b are the first b - 7 of the list
unfoldable pub alone : List Event → ℕ → List Event
alone es b = in_thread (event es b).thread (take (b - 7) es)

unfoldable pub sequence : List Event → ℕ → List Sketch
sequence es b = map sketch (alone es b)

-- the events numbered below a are the first a - 8
unfoldable pub place : List Event → ℕ → ℕ → ℕ
place es a b = cond (nat_lt a 8) a (8 + length (in_thread (event es b).thread (take (a - 8) es)))

pub record Alike (xs : List Event) (a b : ℕ) (ys : List Event) (c d : ℕ) : Type 0 where
  pub ordered : Po xs a b
  pub ordered_too : Po ys c d
  pub same_sequence : sequence xs b ≡ sequence ys d
  pub same_place : place xs a b ≡ place ys c d
