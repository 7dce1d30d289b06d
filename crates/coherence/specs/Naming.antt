-- How a step of coherence is named: by a rule that holds and its readers.
--
--   NotLater x r s u v     of the readers that x names, r and s come no later than u and v: the first decides, then the second
--   Named m es L p q n     n names the step from p to q: a rule of coherence that holds, with its readers
--   FirstNamed m es L p q n   no rule that holds comes before the one that n names, in the order coww, cowr, corw, corr;
--                          nor readers by which it holds before those that n names
--   Lowest n P o           o is the lowest number for which P holds, or P holds for none below n
--   LowestPair P o         o names corr with the readers for which P holds that come first, or P holds for none
use Rattle.std.specs.Prelude.{◌≡◌, ℕ, ◌<◌, ◌≤◌, true, ◌⊎◌, List, Option}
use Rattle.std.specs.Option as options
use Rattle.graph.specs.declared.event.Event.{Event}
use Rattle.profiles.specs.Meaning.{Meaning}
use Rattle.axioms.specs.Relations.{Holds}
use Rattle.axioms.specs.Rules.{number, is_coherence, Unused}
use Rattle.coherence.specs.declared.naming.NamedStep.{NamedStep}
use Rattle.axioms.specs.declared.rule.Rule.{Rule}
use Rattle.axioms.specs.declared.rule.Rule.TheVariants.{ProgramOrder, ReadsFrom, Coww, Cowr, Corw, Corr}

abbrev pub NotLater : Rule → ℕ → ℕ → ℕ → ℕ → Type 0
NotLater ProgramOrder r s u v = Unit {0}
NotLater ReadsFrom r s u v = Unit {0}
NotLater Coww r s u v = Unit {0}
NotLater Cowr r s u v = r ≤ u
NotLater Corw r s u v = r ≤ u
NotLater Corr r s u v = (r < u) ⊎ ((r ≡ u) × (s ≤ v))

pub record Named (m : Meaning) (es : List Event) (L : List ℕ) (p q : ℕ) (n : NamedStep) : Type 0 where
  pub coherence : is_coherence n.rule ≡ true
  pub holds : Holds m es L n.rule p q n.reader n.second
  pub unused : Unused n.rule n.reader n.second

pub record FirstNamed (m : Meaning) (es : List Event) (L : List ℕ) (p q : ℕ) (n : NamedStep) : Type 0 where
  pub rule : (x : Rule) (u v : ℕ) → is_coherence x ≡ true → Holds m es L x p q u v → number n.rule ≤ number x
  pub readers : (u v : ℕ) → Holds m es L n.rule p q u v → NotLater n.rule n.reader n.second u v

abbrev pub Lowest : ℕ → (ℕ → Type 0) → Option ℕ → Type 0
Lowest n P o = options.MatchOption o ((x : ℕ) → x < n → P x → ⊥) (λ x. P x × ((y : ℕ) → P y → x ≤ y))

abbrev pub LowestPair : (ℕ → ℕ → Type 0) → Option NamedStep → Type 0
LowestPair P o =
    options.MatchOption o ((u v : ℕ) → P u v → ⊥) (λ n. (n.rule ≡ Corr) × (P n.reader n.second
    × ((u v : ℕ) → P u v → NotLater Corr n.reader n.second u v)))
