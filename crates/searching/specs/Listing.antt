-- The places in a list of events as items of an order.
--
--   Reaches es E x y    of two distinct places of the list E, the event at x reaches that at y by steps of program order and
--                       reads-from, among the added events es
--   Leading es E b      the items of the precedence b are the places of E, and those events have to come before which reach
--   picked E q          the events of E at the places q
use Rattle.std.specs.Prelude.{◌≡◌, ℕ, ◌<◌, ◌≢◌, List, map, length, slice_index}
use Rattle.measures.specs.Walks.{Leads}
use Rattle.cycles.specs.Tables.{Same}
use Rattle.graph.specs.declared.event.Event.{Event}
use Rattle.axioms.specs.Relations.{SourceStep}
use Rattle.orders.specs.Orders.{Precedes}
use Rattle.orders.specs.declared.precedence.Precedence.{Precedence}

pub record Reaches (es : List Event) (E : List ℕ) (x y : ℕ) : Type 0 where
  pub first : x < length E
  pub second : y < length E
  pub distinct : x ≢ y
  pub way : Leads (SourceStep es) (slice_index E x) (slice_index E y)

pub record Leading (es : List Event) (E : List ℕ) (b : Precedence) : Type 0 where
  pub count : b.count ≡ length E
  pub reaches : Same (Precedes b) (Reaches es E)

abbrev pub picked : List ℕ → List ℕ → List ℕ
picked E q = map (λ x. slice_index E x) q
