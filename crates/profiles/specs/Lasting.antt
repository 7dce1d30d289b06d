-- What follows from the facts of a profile, for every profile.
--
--   Lasting m   the answers last
--   sourced     lists that differ in sources alone get the same answers
--   grown       events that are added later change no answer about an event that was there
--   one_thread  other threads and the numbers do not matter: the answer is that of b's thread alone,
--               in which a and b have their places for numbers
use Rattle.std.specs.Prelude.{◌≡◌, ℕ, List, ◌++◌, map}
use Rattle.graph.specs.declared.event.Event.{Event}
use Rattle.graph.specs.Events.{Present}
use Rattle.graph.specs.Order.{Po}
use Rattle.profiles.specs.Meaning.{Meaning}
use Rattle.profiles.specs.Threads.{sketch, alone, place}

pub record Lasting (m : Meaning) : Type 0 where
  pub sourced : (xs ys : List Event) (a b : ℕ) → map sketch xs ≡ map sketch ys → (m.kept xs a b ≡ m.kept ys a b) × (m.pushed xs a b ≡ m.pushed ys a b)
  pub grown : (es more : List Event) (a b : ℕ) → Present es b → (m.kept (es ++ more) a b ≡ m.kept es a b) × (m.pushed (es ++ more) a b ≡ m.pushed es a b)
  pub one_thread : (es : List Event) (a b : ℕ) → Po es a b →
      (m.kept es a b ≡ m.kept (alone es b) (place es a b) (place es b b)) × (m.pushed es a b ≡ m.pushed (alone es b) (place es a b) (place es b b))
