-- Cycles of a relation R between vertices, which go by number.
--
--   Walk R a vs b    steps of R lead from a through the vertices vs, in their order, to b
--   Closed R vs      a closed chain: each vertex of vs has a step to the next, and the last to the first
--   Distinct vs      no vertex stands twice
--   Cycle R vs       a closed chain in which no vertex stands twice
--   HasCycle R       some vertex leads back to itself
--   NoCycle R        none does
--   Lowest vs        no vertex of vs is below the first
--   Shortest R vs    a cycle that starts at its lowest vertex; no closed chain has fewer steps
--   NotAfter us vs   us is vs, or has the lower vertex at the first place where they differ
--   First R vs       no closed chain of as many steps as vs comes before it in that order
use Rattle.std.specs.Prelude.{◌≡◌, ℕ, ◌<◌, ◌≤◌, ◌⊎◌, List, [], ◌∷◌, length, ◌≢◌}
use Rattle.std.specs.List.{AllByRecursion}
use Rattle.measures.specs.Walks.{Leads}

-- there is one step more than there are vertices between
abbrev pub Walk : (ℕ → ℕ → Type 0) → ℕ → List ℕ → ℕ → Type 0
Walk R a [] b = R a b
Walk R a (v ∷ vs) b = R a v × Walk R v vs b

-- there are as many steps as there are vertices, and at least one
abbrev pub Closed : (ℕ → ℕ → Type 0) → List ℕ → Type 0
Closed R [] = ⊥
Closed R (v ∷ vs) = Walk R v vs v

abbrev pub Distinct : List ℕ → Type 0
Distinct [] = Unit {0}
Distinct (v ∷ vs) = AllByRecursion (λ w. v ≢ w) vs × Distinct vs

pub record Cycle (R : ℕ → ℕ → Type 0) (vs : List ℕ) : Type 0 where
  pub closed : Closed R vs
  pub once : Distinct vs

abbrev pub HasCycle : (ℕ → ℕ → Type 0) → Type 0
HasCycle R = (a : ℕ) × Leads R a a

abbrev pub NoCycle : (ℕ → ℕ → Type 0) → Type 0
NoCycle R = (a : ℕ) → Leads R a a → ⊥

abbrev pub Lowest : List ℕ → Type 0
Lowest [] = Unit {0}
Lowest (v ∷ vs) = AllByRecursion (λ w. v ≤ w) vs

pub record Shortest (R : ℕ → ℕ → Type 0) (vs : List ℕ) : Type 0 where
  pub cycle : Cycle R vs
  pub lowest : Lowest vs
  pub fewest : (us : List ℕ) → Closed R us → length vs ≤ length us

abbrev pub NotAfter : List ℕ → List ℕ → Type 0
NotAfter [] vs = Unit {0}
NotAfter (u ∷ us) [] = ⊥
NotAfter (u ∷ us) (v ∷ vs) = (u < v) ⊎ ((u ≡ v) × NotAfter us vs)

abbrev pub First : (ℕ → ℕ → Type 0) → List ℕ → Type 0
First R vs = (us : List ℕ) → Closed R us → length us ≡ length vs → NotAfter vs us
