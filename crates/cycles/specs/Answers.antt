-- What the calls answer of the relation that a yes/no table xs of side n holds. A buffer held old before the call, and holds new after it.
--
--   Wrote R old new k         a shortest cycle of R, of k steps, at most 64, stands at the front of the buffer,
--                             and the rest is as it was
--   CycleOrNone R old new r   r tells the steps of such a cycle, or that there is none; the buffer is then as it was
--   Unfit                     the table is not square, and the buffer is as it was
--   ShortestCycle             what `shortest_cycle` answers: a cycle, none, or a refusal
--   Tested n xs ys has        the table became ys, which tells what leads where, and has tells whether there is a cycle
--   CycleTest                 what `has_cycle` answers: yes, no, or a refusal
use Rattle.std.specs.Prelude.{◌≡◌, ℕ, ◌≤◌, Bool, List, ◌++◌, length, drop, Decides, Option, Result}
use Rattle.std.specs.Option as options
use Rattle.std.specs.Result as results
use Rattle.measures.specs.declared.settling.Refusal.{Refusal}
use Rattle.measures.specs.declared.settling.Refusal.TheVariants.{NotSquare}
use Rattle.measures.specs.Outcome.{Square, Refused}
use Rattle.measures.specs.Walks.{Yes, Reachable}
use Rattle.cycles.specs.Cycles.{NoCycle, HasCycle, Shortest, First}

pub record Wrote (R : ℕ → ℕ → Type 0) (old new : List ℕ) (k : ℕ) : Type 0 where
  pub found : List ℕ
  pub count : length found ≡ k
  pub room : k ≤ 64
  pub shortest : Shortest R found
  pub first : First R found
  pub front : new ≡ found ++ drop k old

abbrev pub CycleOrNone : (ℕ → ℕ → Type 0) → List ℕ → List ℕ → Option ℕ → Type 0
CycleOrNone R old new r = options.MatchOption r (NoCycle R × (new ≡ old)) (Wrote R old new)

pub record Unfit (n : ℕ) (xs old new : List ℕ) (why : Refusal) : Type 0 where
  pub refusal : why ≡ NotSquare
  pub unfit : Square n xs → ⊥
  pub untouched : new ≡ old

abbrev pub ShortestCycle : ℕ → List ℕ → List ℕ → List ℕ → Result (Option ℕ) Refusal → Type 0
ShortestCycle n xs old new r =
    results.MatchResult r (λ o. Square n xs × CycleOrNone (Yes n xs) old new o) (Unfit n xs old new)

pub record Tested (n : ℕ) (xs ys : List ℕ) (has : Bool) : Type 0 where
  pub square : Square n xs
  pub reachable : Reachable n xs ys
  pub decides : Decides has (HasCycle (Yes n xs))

abbrev pub CycleTest : ℕ → List ℕ → List ℕ → Result Bool Refusal → Type 0
CycleTest n xs ys r = results.MatchResult r (Tested n xs ys) (Refused n xs ys)
