-- What holds of the added events of every graph.
--
--   Draws es l s   the source s is a present write of location l
--   Fit es e       e is an event that a graph can have beside the events es
--   Proper es      every added event is fit
use Rattle.std.specs.Prelude.{◌≡◌, ℕ, ◌≤◌, true, false, List, Some, None, Option}
use Rattle.graph.specs.declared.event.Event.{Event}
use Rattle.graph.specs.Codes.{is_read, is_write, is_fence}
use Rattle.graph.specs.Events.{event, Present, Added}

abbrev pub Draws : List Event → ℕ → Option ℕ → Type 0
Draws es l (Some w) = Present es w × (is_write (event es w).code ≡ true) × ((event es w).location ≡ l)
Draws es l None = ⊥

pub record Fit (es : List Event) (e : Event) : Type 0 where
  pub thread : e.thread ≤ 7
  pub location : e.location ≤ 7
  pub fence : is_fence e.code ≡ true → e.location ≡ 0
  pub value : is_write e.code ≡ false → e.value ≡ 0
  pub drawn : is_read e.code ≡ true → Draws es e.location e.source
  pub none : is_read e.code ≡ false → e.source ≡ None

abbrev pub Proper : List Event → Type 0
Proper es = (n : ℕ) → Added es n → Fit es (event es n)
