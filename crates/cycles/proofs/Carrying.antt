-- What is told of the cycles of a relation is told of every relation with the same steps, and so of the one that a table tells.
use Rattle.std.proofs.Common.{ℕ, ◌<◌, Bool, List, [], ◌∷◌, Some, None, Decides, Option}
use Rattle.std.proofs.lemmas.Bool.Decides.{Decides-like}
use Rattle.measures.specs.Walks.{Yes, Leads, last, more, Reachable}
use Rattle.cycles.specs.Answers.{CycleOrNone}
use Rattle.cycles.specs.Cycles.{Walk, Closed, Cycle, HasCycle, NoCycle, Shortest, First}
use Rattle.cycles.specs.Tables.{Same, TableOf}

-- A relation with more steps.
module _ (R S : ℕ → ℕ → Type 0) (to : (a b : ℕ) → R a b → S a b) where
  pub leads_carries : (b a : ℕ) → Leads R a b → Leads S a b
  leads_carries b a (last p) = last (to a b p)
  leads_carries b a (more {v = v} p q) = more (to a v p) (leads_carries b v q)

  pub has_carries : HasCycle R → HasCycle S
  has_carries h = (h.0, leads_carries h.0 h.0 h.1)

  -- A relation with fewer steps has no cycle either.
  pub no_cycle_carries : NoCycle S → NoCycle R
  no_cycle_carries none a p = none a (leads_carries a a p)

  walk_carries : (a b : ℕ) (vs : List ℕ) → Walk R a vs b → Walk S a vs b
  walk_carries a b [] p = to a b p
  walk_carries a b (v ∷ vs) p = (to a v p.0, walk_carries v b vs p.1)

  pub closed_carries : (vs : List ℕ) → Closed R vs → Closed S vs
  closed_carries [] p = p
  closed_carries (v ∷ vs) p = walk_carries v v vs p

  pub cycle_carries : (vs : List ℕ) → Cycle R vs → Cycle S vs
  cycle_carries vs c = record { closed = closed_carries vs c.closed; once = c.once }

module _ (R S : ℕ → ℕ → Type 0) (same : Same R S) where
  pub shortest_carries : (vs : List ℕ) → Shortest R vs → Shortest S vs
  shortest_carries vs s = record {
    cycle = cycle_carries R S same.to vs s.cycle;
    lowest = s.lowest;
    fewest = λ us p. s.fewest us (closed_carries S R same.from us p);
  }

  pub first_carries : (vs : List ℕ) → First R vs → First S vs
  first_carries vs f us p = f us (closed_carries S R same.from us p)

  -- What `shortest_cycle` answers.
  pub answer_carries : (old new : List ℕ) (r : Option ℕ) → CycleOrNone R old new r → CycleOrNone S old new r
  answer_carries old new None h = (no_cycle_carries S R same.from h.0, h.1)
  answer_carries old new (Some k) h = record {
    found = h.found;
    count = h.count;
    room = h.room;
    shortest = shortest_carries h.found h.shortest;
    first = first_carries h.found h.first;
    front = h.front;
  }

  -- What `has_cycle` answers.
  pub decides_carries : (has : Bool) → Decides has (HasCycle R) → Decides has (HasCycle S)
  decides_carries has = Decides-like has (has_carries R S same.to) (has_carries S R same.from)

-- The yes entries of a table of R are the steps of R.
pub table_same : (n : ℕ) (xs : List ℕ) (R : ℕ → ℕ → Type 0) → TableOf n xs R → Same (Yes n xs) R
table_same n xs R t = record {
  to = λ a b s. (t.tells a b s.row s.column).0 s.is_yes;
  from = λ a b r.
      let w = t.within a b r in
      record { row = w.0; column = w.1; is_yes = (t.tells a b w.0 w.1).1 r };
}

-- Settling makes a table of R one of what R leads to.
module _ (n : ℕ) (xs : List ℕ) (R : ℕ → ℕ → Type 0) (t : TableOf n xs R) where
  leads_within : (b a : ℕ) → Leads R a b → (a < n) × (b < n)
  leads_within b a (last p) = t.within a b p
  leads_within b a (more {v = v} p q) = ((t.within a v p).0, (leads_within b v q).1)

  pub settled_table : (ys : List ℕ) → Reachable n xs ys → TableOf n ys (Leads R)
  settled_table ys reach =
      let same = table_same n xs R t in
      record {
        within = λ a b l. leads_within b a l;
        tells = λ a b p q. Decides-like _ (leads_carries (Yes n xs) R same.to b a) (leads_carries R (Yes n xs) same.from b a) (reach a b p q);
      }
