-- The relations of an execution graph, between events by number, and its two axioms. Throughout, es are the added
-- events, m is what a profile means, and L is a list of events.
--
--   Kept m es a b            the profile keeps a before b
--   Pushed m es a b          the profile pushes a to b
--   Pushes m es a            a pushes: it is the first of a pushed pair
--   PushOrder m es L         L lists the pushing events, each once
--   SourceStep es a b        a step of program order or reads-from
--   Lawful es L              whenever one listed event reaches another by such steps, it stands earlier
--   PushStep m es L a c      a is earlier in L than some d that is pushed to c
--   Vvo m es L a b           a step of visibility: reads-from, kept, or a push step
--   PoLoc es a b             a precedes b in program order, and both are accesses of one location
--   Visible m es L a b       steps of visibility lead from a to b, one or more; or po-loc, which is never chained
--   Rivals es p q            p and q are distinct writes of one location
--   Holds m es L x p q r s   the step from p to q holds by the rule x, with r and s for its readers. A rule that
--                            names fewer than two readers does not ask about the others
--   Co m es L p q            coherence: the step from p to q holds by some rule of coherence, with some readers
--   SourceCycle es           the first axiom is broken: steps of program order and reads-from make a cycle
--   CoherenceCycle m es L    the second axiom is broken: steps of coherence make a cycle
use Rattle.std.specs.Prelude.{◌≡◌, ℕ, true, ◌≢◌, ◌⊎◌, List}
use Rattle.measures.specs.Walks.{Leads}
use Rattle.cycles.specs.Cycles.{HasCycle}
use Rattle.graph.specs.declared.event.Event.{Event}
use Rattle.graph.specs.Codes.{is_read, is_write, is_access}
use Rattle.graph.specs.Events.{event}
use Rattle.graph.specs.Order.{Po, Rf}
use Rattle.profiles.specs.Meaning.{Meaning}
use Rattle.axioms.specs.Orders.{Listed, Before, Once}
use Rattle.axioms.specs.Rules.{is_coherence}
use Rattle.axioms.specs.declared.rule.Rule.{Rule}
use Rattle.axioms.specs.declared.rule.Rule.TheVariants.{ProgramOrder, ReadsFrom, Coww, Cowr, Corw, Corr}

abbrev pub Kept : Meaning → List Event → ℕ → ℕ → Type 0
Kept m es a b = m.kept es a b ≡ true

abbrev pub Pushed : Meaning → List Event → ℕ → ℕ → Type 0
Pushed m es a b = m.pushed es a b ≡ true

abbrev pub Pushes : Meaning → List Event → ℕ → Type 0
Pushes m es a = (b : ℕ) × Pushed m es a b

pub record PushOrder (m : Meaning) (es : List Event) (L : List ℕ) : Type 0 where
  pub each : (a : ℕ) → Listed L a → Pushes m es a
  pub all : (a : ℕ) → Pushes m es a → Listed L a
  pub once : Once L

abbrev pub SourceStep : List Event → ℕ → ℕ → Type 0
SourceStep es a b = Po es a b ⊎ Rf es a b

abbrev pub Lawful : List Event → List ℕ → Type 0
Lawful es L = (a b : ℕ) → Listed L a → Listed L b → a ≢ b → Leads (SourceStep es) a b → Before L a b

pub record PushStep (m : Meaning) (es : List Event) (L : List ℕ) (a c : ℕ) : Type 0 where
  pub by : ℕ
  pub earlier : Before L a by
  pub pushed : Pushed m es by c

abbrev pub Vvo : Meaning → List Event → List ℕ → ℕ → ℕ → Type 0
Vvo m es L a b = Rf es a b ⊎ (Kept m es a b ⊎ PushStep m es L a b)

pub record PoLoc (es : List Event) (a b : ℕ) : Type 0 where
  pub before : Po es a b
  pub first : is_access (event es a).code ≡ true
  pub second : is_access (event es b).code ≡ true
  pub location : (event es a).location ≡ (event es b).location

abbrev pub Visible : Meaning → List Event → List ℕ → ℕ → ℕ → Type 0
Visible m es L a b = Leads (Vvo m es L) a b ⊎ PoLoc es a b

pub record Rivals (es : List Event) (p q : ℕ) : Type 0 where
  pub first : is_write (event es p).code ≡ true
  pub second : is_write (event es q).code ≡ true
  pub location : (event es p).location ≡ (event es q).location
  pub distinct : p ≢ q

-- p is visible to the read r of its location, which precedes q in program order
pub record ReadBetween (m : Meaning) (es : List Event) (L : List ℕ) (p r q : ℕ) : Type 0 where
  pub reads : is_read (event es r).code ≡ true
  pub location : (event es r).location ≡ (event es p).location
  pub visible : Visible m es L p r
  pub before : Po es r q

abbrev pub Holds : Meaning → List Event → List ℕ → Rule → ℕ → ℕ → ℕ → ℕ → Type 0
Holds m es L ProgramOrder p q r s = Po es p q
Holds m es L ReadsFrom p q r s = Rf es p q
Holds m es L Coww p q r s = Rivals es p q × Visible m es L p q
Holds m es L Cowr p q r s = Rivals es p q × (Rf es q r × Visible m es L p r)
Holds m es L Corw p q r s = Rivals es p q × ReadBetween m es L p r q
Holds m es L Corr p q r s = Rivals es p q × (Rf es p r × (Po es r s × Rf es q s))

pub record Co (m : Meaning) (es : List Event) (L : List ℕ) (p q : ℕ) : Type 0 where
  pub rule : Rule
  pub coherence : is_coherence rule ≡ true
  pub reader : ℕ
  pub second : ℕ
  pub holds : Holds m es L rule p q reader second

abbrev pub SourceCycle : List Event → Type 0
SourceCycle es = HasCycle (SourceStep es)

abbrev pub CoherenceCycle : Meaning → List Event → List ℕ → Type 0
CoherenceCycle m es L = HasCycle (Co m es L)
