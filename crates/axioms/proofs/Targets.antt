-- A table tells the ways and the cycles of a relation whose steps all end inside it. A step may start outside: no step
-- leads back there.
use Rattle.std.proofs.Common.{ℕ, ◌<◌, List, [], ◌∷◌, Some, None, Option}
use Rattle.std.proofs.lemmas.Bool.Decides.{Decides-like}
use Rattle.measures.specs.Reach.{yes}
use Rattle.measures.specs.Walks.{at, Leads, last, more, Yes, Reachable}
use Rattle.cycles.specs.Answers.{CycleOrNone}
use Rattle.cycles.specs.Cycles.{Walk, Closed}
use Rattle.cycles.proofs.Carrying.{leads_carries, cycle_carries}
use Rattle.axioms.specs.Tables.{Drawn}

module _ (R : ℕ → ℕ → Type 0) (n : ℕ) (target : (a b : ℕ) → R a b → b < n) where
  pub leads_target : (b a : ℕ) → Leads R a b → b < n
  leads_target b a (last r) = target a b r
  leads_target b a (more {v = v} r q) = leads_target b v q

  walk_target : (a b : ℕ) (vs : List ℕ) → Walk R a vs b → b < n
  walk_target a b [] r = target a b r
  walk_target a b (v ∷ vs) w = walk_target v b vs w.1

  module _ (xs : List ℕ) (drawn : Drawn R n xs) where
    step_of : (a b : ℕ) → Yes n xs a b → R a b
    step_of a b y = (drawn a b y.row y.column).0 y.is_yes

    entry_of : (a b : ℕ) → a < n → R a b → Yes n xs a b
    entry_of a b p r = let q = target a b r in record { row = p; column = q; is_yes = (drawn a b p q).1 r }

    entries_lead : (b a : ℕ) → a < n → Leads R a b → Leads (Yes n xs) a b
    entries_lead b a p (last r) = last (entry_of a b p r)
    entries_lead b a p (more {v = v} r q) = more (entry_of a v p r) (entries_lead b v (target a v r) q)

    entries_walk : (a b : ℕ) (vs : List ℕ) → a < n → Walk R a vs b → Walk (Yes n xs) a vs b
    entries_walk a b [] p r = entry_of a b p r
    entries_walk a b (v ∷ vs) p w = (entry_of a v p w.0, entries_walk v b vs (target a v w.0) w.1)

    entries_closed : (vs : List ℕ) → Closed R vs → Closed (Yes n xs) vs
    entries_closed [] w = w
    entries_closed (v ∷ vs) w = entries_walk v v vs (walk_target v v vs w) w

    pub settled_tells : (ys : List ℕ) → Reachable n xs ys → Drawn (Leads R) n ys
    settled_tells ys reachable a b p q =
        Decides-like (yes (at n ys a b)) (leads_carries (Yes n xs) R step_of b a) (entries_lead b a p) (reachable a b p q)

    pub cycle_tells : (old new : List ℕ) (r : Option ℕ) → CycleOrNone (Yes n xs) old new r → CycleOrNone R old new r
    cycle_tells old new None h = (λ a l. h.0 a (entries_lead a a (leads_target a a l) l), h.1)
    cycle_tells old new (Some k) h = record {
      found = h.found;
      count = h.count;
      room = h.room;
      shortest = record {
        cycle = cycle_carries (Yes n xs) R step_of h.found h.shortest.cycle;
        lowest = h.shortest.lowest;
        fewest = λ us w. h.shortest.fewest us (entries_closed us w);
      };
      first = λ us w. h.first us (entries_closed us w);
      front = h.front;
    }
