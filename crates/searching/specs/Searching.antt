-- The search for a good push order. es are the added events, and m is what a profile means.
--
--   Few m es, Many m es      at most eight events push, or more do
--   LawfulOrder m es L       a push order that is lawful
--   FirstGood m es L         the first of the good push orders: at the first place where two differ, the lower event comes first
--   Searches m es old new r  what `search` answers, where its buffer held old before and holds new after, case by case; the first
--                            case that applies is the answer:
--                              short      the buffer has less than 56 bytes
--                              many       more than eight events push
--                              source     there is a source cycle
--                              unlawful   no push order is lawful
--                              found      the first good push order is written to the front of the buffer, and the rest is as it was
--                              none       there is a coherence cycle under every lawful push order
use Rattle.std.specs.Prelude.{◌≡◌, ℕ, ◌<◌, ◌≤◌, List, ◌++◌, length, drop, Ok, Err, Result}
use Rattle.cycles.specs.Cycles.{NotAfter}
use Rattle.graph.specs.declared.event.Event.{Event}
use Rattle.graph.specs.declared.refusal.Refusal.{Refusal}
use Rattle.graph.specs.declared.refusal.Refused.{Refused}
use Rattle.graph.specs.Refusals.{plain}
use Rattle.profiles.specs.Meaning.{Meaning}
use Rattle.axioms.specs.Permitted.{Good}
use Rattle.axioms.specs.PushOrders.{CountPushing}
use Rattle.axioms.specs.Relations.{PushOrder, Lawful, SourceCycle, CoherenceCycle}
use Rattle.searching.specs.declared.answer.Answer.{Answer}

abbrev pub Few : Meaning → List Event → Type 0
Few m es = (k : ℕ) × (CountPushing m es k × (k ≤ 8))

abbrev pub Many : Meaning → List Event → Type 0
Many m es = (k : ℕ) × (CountPushing m es k × (8 < k))

pub record LawfulOrder (m : Meaning) (es : List Event) (L : List ℕ) : Type 0 where
  pub push_order : PushOrder m es L
  pub lawful : Lawful es L

pub record FirstGood (m : Meaning) (es : List Event) (L : List ℕ) : Type 0 where
  pub good : Good m es L
  pub first : (M : List ℕ) → Good m es M → NotAfter L M

pub data Searches (m : Meaning) (es : List Event) (old new : List ℕ) (r : Result Answer Refused) : Type 0 where
  short : length old < 56 → r ≡ Err (plain Refusal.BufferTooShort) → new ≡ old → Searches m es old new r
  many : 56 ≤ length old → Many m es → r ≡ Err (plain Refusal.TooManyPush) → new ≡ old → Searches m es old new r
  source : 56 ≤ length old → Few m es → SourceCycle es → r ≡ Ok Answer.SourceCycle → new ≡ old → Searches m es old new r
  unlawful : 56 ≤ length old → Few m es → (SourceCycle es → ⊥) → ((L : List ℕ) → LawfulOrder m es L → ⊥) →
      r ≡ Err (plain Refusal.NoLawfulOrder) → new ≡ old → Searches m es old new r
  found : 56 ≤ length old → Few m es → (SourceCycle es → ⊥) → (L : List ℕ) → FirstGood m es L →
      r ≡ Ok (Answer.Found (length L)) → new ≡ L ++ drop (length L) old → Searches m es old new r
  none : 56 ≤ length old → Few m es → (SourceCycle es → ⊥) → (L : List ℕ) → LawfulOrder m es L →
      ((M : List ℕ) → LawfulOrder m es M → CoherenceCycle m es M) → r ≡ Ok Answer.NoneGood → new ≡ old → Searches m es old new r
