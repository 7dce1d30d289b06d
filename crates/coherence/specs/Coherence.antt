-- The table of coherence and its cycles, as a sight answers them.
--
--   ReadBefore es p r         some read that precedes r in program order takes its value from p
--   ByValue m es L p q r      r takes its value from q, and p is visible to it or read before it: the reader of cowr, or the second of corr
--   ByOrder m es L p q r      r is a read of p's location that p is visible to, and it precedes q in program order: the reader of corw
--   Shows m es L p q r        the read r shows the step from p to q, by value or by order
--   Unfit, Refused            a table does not fit
--   TableDrawn s xs ys r      what `draw_coherence` answers: the table of coherence, or one that does not fit, as it was
--   ShortestAnswer            what `coherence_cycle` answers: a shortest cycle, none, or a refusal
--   TestAnswer                what `has_coherence_cycle` answers: yes, no, or a refusal
use Rattle.std.specs.Prelude.{◌≡◌, ℕ, ◌+◌, Bool, ◌⊎◌, List, length, Decides, Option, Result}
use Rattle.std.specs.Result as results
use Rattle.measures.specs.declared.settling.Refusal.{Refusal}
use Rattle.measures.specs.declared.settling.Refusal.TheVariants.{NotSquare}
use Rattle.cycles.specs.Answers.{CycleOrNone}
use Rattle.graph.specs.declared.event.Event.{Event}
use Rattle.graph.specs.Order.{Po, Rf}
use Rattle.profiles.specs.Meaning.{Meaning}
use Rattle.axioms.specs.Relations.{Co, CoherenceCycle}
use Rattle.coherence.specs.Sights.{Throughout, Seen, ReadsLocation}
use Rattle.axioms.specs.Tables.{Drawn}
use Rattle.coherence.specs.Visibility.{Fits}
use Rattle.coherence.specs.declared.sight.Sight.{Sight}

abbrev pub ReadBefore : List Event → ℕ → ℕ → Type 0
ReadBefore es p r = (k : ℕ) × (Rf es p k × Po es k r)

abbrev pub ByValue : Meaning → List Event → List ℕ → ℕ → ℕ → ℕ → Type 0
ByValue m es L p q r = Rf es q r × (Seen m es L p r ⊎ ReadBefore es p r)

abbrev pub ByOrder : Meaning → List Event → List ℕ → ℕ → ℕ → ℕ → Type 0
ByOrder m es L p q r = Po es r q × (ReadsLocation es r p × Seen m es L p r)

unfoldable pub Shows : Meaning → List Event → List ℕ → ℕ → ℕ → ℕ → Type 0
Shows m es L p q r = ByValue m es L p q r ⊎ ByOrder m es L p q r

pub record Unfit (s : Sight) (xs ys : List ℕ) (why : Refusal) : Type 0 where
  pub refusal : why ≡ NotSquare
  pub unfit : Fits s.events.now xs → ⊥
  pub untouched : ys ≡ xs

-- the lent table held xs, and holds ys
abbrev pub TableDrawn : Sight → List ℕ → List ℕ → Result (Unit {0}) Refusal → Type 0
TableDrawn s xs ys r =
    results.MatchResult r
    (λ _. Fits s.events.now xs × Throughout s (λ es m L. Drawn (Co m es L) (length es + 8) ys))
    (Unfit s xs ys)

pub record Refused (s : Sight) (why : Refusal) : Type 0 where
  pub refusal : why ≡ NotSquare
  pub unfit : Fits s.events.now s.leads.now → ⊥

-- the buffer held old, and holds new
abbrev pub ShortestAnswer : Sight → List ℕ → List ℕ → Result (Option ℕ) Refusal → Type 0
ShortestAnswer s old new r =
    results.MatchResult r
    (λ o. Fits s.events.now s.leads.now × Throughout s (λ es m L. CycleOrNone (Co m es L) old new o))
    (λ why. Refused s why × (new ≡ old))

abbrev pub TestAnswer : Sight → Result Bool Refusal → Type 0
TestAnswer s r =
    results.MatchResult r
    (λ has. Fits s.events.now s.leads.now × Throughout s (λ es m L. Decides has (CoherenceCycle m es L)))
    (Refused s)
