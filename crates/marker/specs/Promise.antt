-- The whole promise, on the contract of `examine`. The call makes a new graph, performs calls on it, judges it with a list, marks the sheet written and a
-- sheet brought, and searches it. m is what the profile means, whoever wrote it, and es are the events of the graph that was made.
--
--   Promise                 all of it:
--     history                 the answers to the calls, the graph and the slice are those of the plain history (`Performed`)
--     agreement               what judging and marking say agrees, for every list, every buffer and every sheet (`Agreement`)
--     search                  searching finds an order exactly if the graph is permitted, for every buffer (`FindsPermitted`)
--     single_order            for JAM21 and a graph of sc accesses, exactly if one order of all events explains every read (`FindsSequential`)
--     handed_back             the values handed back are those that judging, marking and searching are defined to give (`HandedBack`)
--
--   Agreement m es
--     judging_refuses         judging refuses exactly as defined: where a refusal applies, it is the answer
--     marking_refuses         marking has one answer for each sheet, as its checks give it
--     own_passes              for every list that judging does not refuse, marking passes the sheet written
--     others                  every other sheet with that list that marking passes has the same verdict, and at least as many steps
--   FindsPermitted m es
--     found_exactly           where at most eight events push and the buffer has 56 bytes, the answer is found exactly if there is no source cycle
--                             and some lawful push order has no coherence cycle
--     found_writes            it then writes such an order at the front of the buffer, tells its length and leaves the rest
--     source, none            else it answers source where there is a source cycle, and none where every lawful order has a coherence cycle
--     too_short, too_many, no_order   outside these premises it refuses: 16, 13, 14
--     else_untouched          where nothing is found the buffer is as it was
use Rattle.std.specs.Prelude.{◌≡◌, ℕ, ◌<◌, ◌≤◌, List, [], ◌++◌, length, take, drop, Some, None, Ok, Err, Option, Result}
use Rattle.graph.specs.declared.event.Event.{Event}
use Rattle.graph.specs.declared.graph.Graph.{Graph}
use Rattle.graph.specs.declared.refusal.Refusal.{Refusal}
use Rattle.graph.specs.declared.refusal.Refused.{Refused}
use Rattle.graph.specs.Holds.{added_events}
use Rattle.graph.specs.Refusals.{plain}
use Rattle.profiles.specs.Meaning.{Meaning}
use Rattle.axioms.specs.Permitted.{Good, Permitted}
use Rattle.axioms.specs.Relations.{SourceCycle, CoherenceCycle}
use Rattle.sheets.specs.Sheets.{Sheet, encode}
use Rattle.judging.specs.Judging.{Refuses, Judges}
use Rattle.marking.specs.Marking.{Marks}
use Rattle.searching.specs.Searching.{Few, Many, LawfulOrder, Searches}
use Rattle.searching.specs.declared.answer.Answer.{Answer}
use Rattle.sequential.specs.Single.{Jam21, AllSc, Sequential}
use Rattle.marker.specs.declared.entries.Entry.{Entry}
use Rattle.marker.specs.declared.answers.Answers.{Answers}
use Rattle.marker.specs.Entries.{Performed}

pub record Agreement (m : Meaning) (es : List Event) : Type 0 where
  pub judging_refuses : (L old new : List ℕ) (r : Result ℕ Refused) → Judges m es L old new r → (e : Refused) → Refuses m es L old e → r ≡ Err e
  pub marking_refuses : (bs : List ℕ) (r s : Result (Unit {0}) Refused) → Marks m es bs r → Marks m es bs s → r ≡ s
  pub own_passes : (L old new : List ℕ) (n : ℕ) → Judges m es L old new (Ok n) → (r : Result (Unit {0}) Refused) → Marks m es (take n new) r → r ≡ Ok tt
  pub others : (L old new : List ℕ) (n : ℕ) → Judges m es L old new (Ok n) → (own other : Sheet) → take n new ≡ encode own →
      other.order ≡ L → Marks m es (encode other) (Ok tt) →
      (other.verdict ≡ own.verdict) × (length own.steps ≤ length other.steps)

-- the answer is found
abbrev pub IsFound : Result Answer Refused → Type 0
IsFound r = (n : ℕ) × (r ≡ Ok (Answer.Found n))

-- a search for which it is promised that it finds: the buffer is long enough, and at most eight events push
pub record Ready (m : Meaning) (es : List Event) (old : List ℕ) : Type 0 where
  pub room : 56 ≤ length old
  pub few : Few m es

pub record FindsPermitted (m : Meaning) (es : List Event) : Type 0 where
  pub found_exactly : (old new : List ℕ) (r : Result Answer Refused) → Searches m es old new r → Ready m es old →
      (Permitted m es → IsFound r) × (IsFound r → Permitted m es)
  pub found_writes : (old new : List ℕ) (n : ℕ) → Searches m es old new (Ok (Answer.Found n)) →
      (L : List ℕ) × (Good m es L × ((n ≡ length L) × (new ≡ L ++ drop n old)))
  pub source : (old new : List ℕ) (r : Result Answer Refused) → Searches m es old new r → Ready m es old → SourceCycle es → r ≡ Ok Answer.SourceCycle
  pub none : (old new : List ℕ) (r : Result Answer Refused) → Searches m es old new r → Ready m es old → (SourceCycle es → ⊥) →
      (L : List ℕ) → LawfulOrder m es L → ((M : List ℕ) → LawfulOrder m es M → CoherenceCycle m es M) → r ≡ Ok Answer.NoneGood
  pub too_short : (old new : List ℕ) (r : Result Answer Refused) → Searches m es old new r → length old < 56 → r ≡ Err (plain Refusal.BufferTooShort)
  pub too_many : (old new : List ℕ) (r : Result Answer Refused) → Searches m es old new r → 56 ≤ length old → Many m es → r ≡ Err (plain Refusal.TooManyPush)
  pub no_order : (old new : List ℕ) (r : Result Answer Refused) → Searches m es old new r → Ready m es old → (SourceCycle es → ⊥) →
      ((L : List ℕ) → LawfulOrder m es L → ⊥) → r ≡ Err (plain Refusal.NoLawfulOrder)
  pub else_untouched : (old new : List ℕ) (r : Result Answer Refused) → Searches m es old new r → (IsFound r → ⊥) → new ≡ old

abbrev pub FindsSequential : Meaning → List Event → Type 0
FindsSequential m es =
    Jam21 m → AllSc es → (old new : List ℕ) (r : Result Answer Refused) → Searches m es old new r → Ready m es old →
    (Sequential es → IsFound r) × (IsFound r → Sequential es)

-- what marking the sheet that judging wrote answers; there is none where judging refused
abbrev pub OwnMarked : Meaning → List Event → List ℕ → Result ℕ Refused → Option (Result (Unit {0}) Refused) → Type 0
OwnMarked m es sheet (Ok n) w = (r : Result (Unit {0}) Refused) × (Marks m es (take n sheet) r × (w ≡ Some r))
OwnMarked m es sheet (Err e) w = w ≡ None

-- a buffer, before the call and after it
pub record Buffer : Type 0 where
  pub old : List ℕ
  pub new : List ℕ

pub record HandedBack (m : Meaning) (es : List Event) (list brought : List ℕ) (sheet order : Buffer) (a : Answers) : Type 0 where
  pub judged : Judges m es list sheet.old sheet.new a.judged
  pub own_marked : OwnMarked m es sheet.new a.judged a.own
  pub brought_marked : Marks m es brought a.brought
  pub searched : Searches m es order.old order.new a.searched

pub record Promise (m : Meaning) (slice : List Event) (before after : List Entry) (list brought : List ℕ) (sheet order : Buffer) (a : Answers) (g : Graph) : Type 0 where
  pub history : Performed slice [] g before after
  pub agreement : Agreement m (added_events g)
  pub search : FindsPermitted m (added_events g)
  pub single_order : FindsSequential m (added_events g)
  pub handed_back : HandedBack m (added_events g) list brought sheet order a
