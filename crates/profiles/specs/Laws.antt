-- The facts that every profile shows of its meaning.
--
--   ordered        a kept pair is in program order
--   narrower       a pushed pair is kept
--   from_added     the first event of a pushed pair is an added one
--   kept_alike     pairs that are alike get the same answers: an answer depends only on thread,
--   pushed_alike   code, location and value of the initial writes and of b's thread up to b, on no
--                  source, on no other thread and on no event's number
use Rattle.std.specs.Prelude.{◌≡◌, ℕ, true, List}
use Rattle.graph.specs.declared.event.Event.{Event}
use Rattle.graph.specs.Events.{Added}
use Rattle.graph.specs.Order.{Po}
use Rattle.profiles.specs.Meaning.{Meaning}
use Rattle.profiles.specs.Threads.{Alike}

pub record Lawful (m : Meaning) : Type 0 where
  pub ordered : (es : List Event) (a b : ℕ) → m.kept es a b ≡ true → Po es a b
  pub narrower : (es : List Event) (a b : ℕ) → m.pushed es a b ≡ true → m.kept es a b ≡ true
  pub from_added : (es : List Event) (a b : ℕ) → m.pushed es a b ≡ true → Added es a
  pub kept_alike : (xs : List Event) (a b : ℕ) (ys : List Event) (c d : ℕ) → Alike xs a b ys c d → m.kept xs a b ≡ m.kept ys c d
  pub pushed_alike : (xs : List Event) (a b : ℕ) (ys : List Event) (c d : ℕ) → Alike xs a b ys c d → m.pushed xs a b ≡ m.pushed ys c d
