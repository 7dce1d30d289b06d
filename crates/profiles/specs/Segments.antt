-- The part of a thread from one event to another.
--
--   Between es a n b       n stands strictly between a and b in program order
--   between es a b         the events strictly between a and b, in order, for a pair in program order
--   Segment                what stands from a to b, with neither numbers nor sources:
--   initial                whether a is an initial write
--   first, last            a and b
--   inner                  the events strictly between
--   segment es a b         the segment of a pair
--   inner_codes s          the codes strictly between
--   by_segment keep push   the profile that answers by tests of the segment: keeps the pairs in
--                          program order that pass `keep`, and pushes those that pass `push` and
--                          whose first event is an added one
use Rattle.std.specs.Prelude.{ℕ, ◌-◌, Bool, ◌&&◌, List, map, take, drop, nat_le, nat_lt}
use Rattle.graph.specs.declared.code.Code.{Code}
use Rattle.graph.specs.declared.event.Event.{Event}
use Rattle.graph.specs.Events.{event}
use Rattle.graph.specs.Order.{Po, po}
use Rattle.profiles.specs.Meaning.{Meaning}
use Rattle.profiles.specs.Threads.{Sketch, sketch, in_thread}

pub record Between (es : List Event) (a n b : ℕ) : Type 0 where
  pub after : Po es a n
  pub before : Po es n b

-- the events numbered below b are the first b - 8 of the list; those up to a are the first a - 7,
-- which are none for an initial write
unfoldable pub between : List Event → ℕ → ℕ → List Event
between es a b = in_thread (event es b).thread (drop (a - 7) (take (b - 8) es))

pub record Segment : Type 0 where
  pub initial : Bool
  pub first : Sketch
  pub inner : List Sketch
  pub last : Sketch

abbrev pub segment : List Event → ℕ → ℕ → Segment
segment es a b = record { initial = nat_lt a 8; first = sketch (event es a); inner = map sketch (between es a b); last = sketch (event es b) }

abbrev pub inner_codes : Segment → List Code
inner_codes s = map (λ e. e.code) s.inner

abbrev pub by_segment : (Segment → Bool) → (Segment → Bool) → Meaning
by_segment keep push = record {
  kept = λ es a b. po es a b && keep (segment es a b);
  pushed = λ es a b. nat_le 8 a && (po es a b && push (segment es a b));
}
