-- What a sight tells: a graph's added events, with a table of visibility.
--
--   Known s              a profile and a list whose visibility the table of s tells
--   Throughout s P       P holds of the events of s, for every profile m and list L whose visibility the table of s tells
--   Seen m es L a b      a is visible to b, and both are events of the graph
--   Writes es n l        n is a write of the location l
--   ReadsLocation es r p   r is a read of p's location, and both are events of the graph
--   ByReaders es p q r s   the step from p to q holds by corr with the readers r and s
use Rattle.std.specs.Prelude.{◌≡◌, ℕ, true, List}
use Rattle.graph.specs.declared.event.Event.{Event}
use Rattle.graph.specs.Codes.{is_read, is_write}
use Rattle.graph.specs.Events.{event, Present}
use Rattle.profiles.specs.Meaning.{Meaning}
use Rattle.graph.specs.Order.{Po, Rf}
use Rattle.axioms.specs.Relations.{Visible, Rivals}
use Rattle.coherence.specs.Visibility.{Told}
use Rattle.coherence.specs.declared.sight.Sight.{Sight}

pub record Known (s : Sight) : Type 0 where
  pub meaning : Meaning
  pub list : List ℕ
  pub told : Told meaning s.events.now list s.leads.now

abbrev pub Throughout : Sight → (List Event → Meaning → List ℕ → Type 0) → Type 0
Throughout s P = (m : Meaning) (L : List ℕ) → Told m s.events.now L s.leads.now → P s.events.now m L

pub record Seen (m : Meaning) (es : List Event) (L : List ℕ) (a b : ℕ) : Type 0 where
  pub row : Present es a
  pub column : Present es b
  pub visible : Visible m es L a b

pub record Writes (es : List Event) (n l : ℕ) : Type 0 where
  pub writes : is_write (event es n).code ≡ true
  pub location : (event es n).location ≡ l

pub record ReadsLocation (es : List Event) (r p : ℕ) : Type 0 where
  pub reader : Present es r
  pub other : Present es p
  pub reads : is_read (event es r).code ≡ true
  pub location : (event es r).location ≡ (event es p).location

abbrev pub ByReaders : List Event → ℕ → ℕ → ℕ → ℕ → Type 0
ByReaders es p q r s = Rivals es p q × (Rf es p r × (Po es r s × Rf es q s))
