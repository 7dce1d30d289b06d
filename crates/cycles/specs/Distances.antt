-- The fewest steps between vertices, in a table of side n, and how a shortest cycle is read off them.
--
--   Marked xs ys           ys has 1 where the yes/no table xs says yes, and 255 elsewhere
--   Distances R n ys       an entry of at most 64 is the number of steps of a walk of R, and no such walk has fewer
--   AllFar n ys            no vertex has a way of at most 64 steps back to itself
--   FewestBack n ys k      k is the fewest steps, at most 64, by which a vertex leads back to itself
--   Nearest n ys s         s is the lowest of the vertices whose way back to themselves is shortest
--   Onward R n ys s v w    w is the lowest vertex with a step from v to it that is nearer to s than v by one step
--   Way R n ys s v ws      from v through ws to s, ever onward
--   Traced                 the first k vertices of a buffer are such a way from s to s, and the rest is as it was
use Rattle.std.specs.Prelude.{◌≡◌, ℕ, ◌+◌, ◌<◌, ◌≤◌, cond, List, [], ◌∷◌, ◌++◌, length, drop, slice_index}
use Rattle.measures.specs.Reach.{yes}
use Rattle.measures.specs.Walks.{at}
use Rattle.cycles.specs.Cycles.{Walk}

abbrev pub Marked : List ℕ → List ℕ → Type 0
Marked xs ys = (i : ℕ) → i < length xs → slice_index ys i ≡ cond (yes (slice_index xs i)) 1 255

pub record Distances (R : ℕ → ℕ → Type 0) (n : ℕ) (ys : List ℕ) : Type 0 where
  pub near : (a b : ℕ) (vs : List ℕ) → Walk R a vs b → length vs < 64 → at n ys a b ≤ length vs + 1
  pub real : (a b : ℕ) → a < n → b < n → at n ys a b ≤ 64 → (vs : List ℕ) × Walk R a vs b × (length vs + 1 ≡ at n ys a b)

abbrev pub AllFar : ℕ → List ℕ → Type 0
AllFar n ys = (a : ℕ) → a < n → 64 < at n ys a a

pub record FewestBack (n : ℕ) (ys : List ℕ) (k : ℕ) : Type 0 where
  pub some : (a : ℕ) × (a < n) × (at n ys a a ≡ k)
  pub least : (a : ℕ) → a < n → k ≤ at n ys a a
  pub small : k ≤ 64

pub record Nearest (n : ℕ) (ys : List ℕ) (s : ℕ) : Type 0 where
  pub below : s < n
  pub small : at n ys s s ≤ 64
  pub least : (a : ℕ) → a < n → at n ys s s ≤ at n ys a a
  pub first : (a : ℕ) → a < s → at n ys s s < at n ys a a

pub record Onward (R : ℕ → ℕ → Type 0) (n : ℕ) (ys : List ℕ) (s v w : ℕ) : Type 0 where
  pub step : R v w
  pub nearer : at n ys w s + 1 ≡ at n ys v s
  pub lowest : (u : ℕ) → R v u → at n ys u s ≡ at n ys w s → w ≤ u

abbrev pub Way : (ℕ → ℕ → Type 0) → ℕ → List ℕ → ℕ → ℕ → List ℕ → Type 0
Way R n ys s v [] = R v s
Way R n ys s v (w ∷ ws) = Onward R n ys s v w × Way R n ys s w ws

pub record Traced (R : ℕ → ℕ → Type 0) (n : ℕ) (ys : List ℕ) (s k : ℕ) (old new : List ℕ) : Type 0 where
  pub between : List ℕ
  pub way : Way R n ys s s between
  pub count : length between + 1 ≡ k
  pub front : new ≡ (s ∷ between) ++ drop k old
