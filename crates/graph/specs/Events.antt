-- Events by number. A list of events holds the added ones, in the order of their addition.
--
--   initial_write l   the initial write of location l: mode rlx, value 0
--   fresh t c l v     an event as it is added; a read starts with its location's initial write
--   event es n        the event numbered n: an initial write below 8, else an added event
--   Present es n      n is the number of an event
--   Added es n        n is the number of an added event
use Rattle.std.specs.Prelude.{ℕ, ◌+◌, ◌-◌, ◌<◌, ◌≤◌, cond, List, length, Some, None, Option, nat_lt, slice_index_or}
use Rattle.graph.specs.declared.code.Code.{Code}
use Rattle.graph.specs.declared.code.Code.TheVariants.{Read, Write, Fence}
use Rattle.graph.specs.declared.code.ReadMode.{ReadMode}
use Rattle.graph.specs.declared.code.WriteMode.{WriteMode}
use Rattle.graph.specs.declared.event.Event.{Event}

abbrev pub initial_write : ℕ → Event
initial_write l = record { thread = 0; code = Write WriteMode.Rlx; location = l; value = 0; source = None }

abbrev pub first_source : Code → ℕ → Option ℕ
first_source (Read m) l = Some l
first_source (Write m) l = None
first_source (Fence m) l = None

abbrev pub fresh : ℕ → Code → ℕ → ℕ → Event
fresh t c l v = record { thread = t; code = c; location = l; value = v; source = first_source c l }

-- what an absent number reads as
abbrev pub absent : Event
absent = record { thread = 0; code = Read ReadMode.Na; location = 0; value = 0; source = None }

abbrev pub event : List Event → ℕ → Event
event es n = cond (nat_lt n 8) (initial_write n) (slice_index_or es (n - 8) absent)

abbrev pub Present : List Event → ℕ → Type 0
Present es n = n < length es + 8

abbrev pub Added : List Event → ℕ → Type 0
Added es n = (8 ≤ n) × (n < length es + 8)
