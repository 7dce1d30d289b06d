-- Program order and reads-from, between the numbers of events.
--
--   Po es a b   a precedes b in program order: b is an added event, and a is an initial write
--               or an earlier event of b's thread
--   Rf es w r   r is an added event whose source is w
--   po          the test of program order
use Rattle.std.specs.Prelude.{◌≡◌, ℕ, ◌+◌, ◌<◌, Bool, ◌&&◌, ◌||◌, ◌⊎◌, List, length, Some, None, Option, ◌==◌, nat_le, nat_lt}
use Rattle.graph.specs.declared.event.Event.{Event}
use Rattle.graph.specs.Events.{event, Added}

pub record Po (es : List Event) (a b : ℕ) : Type 0 where
  pub added : Added es b
  pub earlier : a < b
  pub joined : (a < 8) ⊎ ((event es a).thread ≡ (event es b).thread)

-- the source is w
abbrev pub Names : Option ℕ → ℕ → Type 0
Names (Some s) w = s ≡ w
Names None w = ⊥

pub record Rf (es : List Event) (w r : ℕ) : Type 0 where
  pub added : Added es r
  pub source : Names (event es r).source w

abbrev pub po : List Event → ℕ → ℕ → Bool
po es a b = (nat_le 8 b && nat_lt b (length es + 8)) && (nat_lt a b && (nat_lt a 8 || (event es a).thread == (event es b).thread))
