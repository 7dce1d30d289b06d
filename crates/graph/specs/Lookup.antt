-- The event of a number, where there is one.
--
--   lookup es n   the event numbered n, an initial write or one of the added events es
use Rattle.std.specs.Prelude.{ℕ, ◌+◌, cond, List, length, Some, None, Option, nat_lt}
use Rattle.graph.specs.declared.event.Event.{Event}
use Rattle.graph.specs.Events.{event}

abbrev pub lookup : List Event → ℕ → Option Event
lookup es n = cond (nat_lt n (length es + 8)) (Some (event es n)) None
