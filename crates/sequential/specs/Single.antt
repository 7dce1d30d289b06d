-- Single orders: where every added event is an sc access, JAM21 permits a graph exactly if one order of all its
-- events explains every read. Throughout, es are the added events and m is what a profile means.
--
--   Jam21 m            m is JAM21: it keeps and pushes the pairs that the rules of JAM21 say
--   AllSc es           every added event is an sc access
--   Good m es L        L is a push order, it is lawful, and steps of coherence make no cycle under it
--   Permitted m es     there is no source cycle, and some push order is good
--   Single es S        S is a single order: it lists the events, initial writes too, each once; program order goes
--                      forward in it; each read stands after its source, with no other write of the read's
--                      location between
--   Sequential es      some order is single
--   SingleOrder m es   the graph is permitted exactly if it is sequential
use Rattle.std.specs.Prelude.{◌≡◌, ℕ, true, List, Decides}
use Rattle.graph.specs.declared.event.Event.{Event}
use Rattle.graph.specs.Codes.{is_write}
use Rattle.graph.specs.Events.{event, Present, Added}
use Rattle.graph.specs.Order.{Po, Rf}
use Rattle.profiles.specs.Meaning.{Meaning}
use Rattle.profiles.specs.Modes.{is_sc_access}
use Rattle.profiles.specs.Rules.{Kept, Pushed}
use Rattle.axioms.specs.Orders.{Listed, Before, Once}
pub use Rattle.axioms.specs.Permitted.{Good, Permitted}

pub record Jam21 (m : Meaning) : Type 0 where
  pub kept : (es : List Event) (a b : ℕ) → Decides (m.kept es a b) (Kept es a b)
  pub pushed : (es : List Event) (a b : ℕ) → Decides (m.pushed es a b) (Pushed es a b)

abbrev pub AllSc : List Event → Type 0
AllSc es = (n : ℕ) → Added es n → is_sc_access (event es n).code ≡ true

pub record Single (es : List Event) (S : List ℕ) : Type 0 where
  pub each : (a : ℕ) → Listed S a → Present es a
  pub all : (a : ℕ) → Present es a → Listed S a
  pub once : Once S
  pub program : (a b : ℕ) → Po es a b → Before S a b
  pub source : (w r : ℕ) → Rf es w r → Before S w r
  pub latest : (w r v : ℕ) → Rf es w r → is_write (event es v).code ≡ true → (event es v).location ≡ (event es r).location →
      Before S w v → Before S v r → ⊥

abbrev pub Sequential : List Event → Type 0
Sequential es = (S : List ℕ) × Single es S

pub record SingleOrder (m : Meaning) (es : List Event) : Type 0 where
  pub has_single : Permitted m es → Sequential es
  pub is_permitted : Sequential es → Permitted m es
