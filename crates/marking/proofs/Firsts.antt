-- Lists of checks, one behind the other.
--
--   NoneOf cs   none of the checks gives a refusal
use Rattle.std.proofs.Common.{◌≡◌, ℕ, ◌⊎◌, List, [], ◌∷◌, ◌++◌, Ok, Err, Result, refl, ap, inl, inr, arith}
use Rattle.graph.specs.declared.refusal.Refused.{Refused}
use Rattle.sheets.specs.Checks.{FirstOf}

abbrev pub NoneOf : List (Refused → Type 0) → Type 0
NoneOf [] = Unit {0}
NoneOf (C ∷ cs) = ((e : Refused) → C e → ⊥) × NoneOf cs

pub passes_all : {X : Type 0} (cs : List (Refused → Type 0)) (x : X) → NoneOf cs → FirstOf cs (Ok x)
passes_all [] x none = refl
passes_all (C ∷ cs) x none = inr (none.0, passes_all cs x none.1)

pub none_from_passed : {X : Type 0} (cs : List (Refused → Type 0)) (x : X) → FirstOf cs (Ok x) → NoneOf cs
none_from_passed [] x p = tt
none_from_passed (C ∷ cs) x (inl p) = let z : ◌≡◌ {A = ℕ} 0 1 = cc p.1.1 in absurd (omega arith)
none_from_passed (C ∷ cs) x (inr p) = (p.0, none_from_passed cs x p.1)

pub never_refused : (X : Type 0) (cs : List (Refused → Type 0)) (e : Refused) → NoneOf cs → FirstOf {X = X} cs (Err e) → ⊥
never_refused X [] e none p = let z : ◌≡◌ {A = ℕ} 0 1 = cc in omega arith
never_refused X (C ∷ cs) e none (inl p) = none.0 p.0 p.1.0
never_refused X (C ∷ cs) e none (inr p) = never_refused X cs e none.1 p.1

same_refusal : (X : Type 0) (e d : Refused) → ◌≡◌ {A = Result X Refused} (Err e) (Err d) → e ≡ d
same_refusal X e d q = cc

-- A refusal by the first checks is that of all.
pub refused_before : (X Y : Type 0) (cs ds : List (Refused → Type 0)) (e : Refused) → FirstOf {X = X} cs (Err e) → FirstOf {X = Y} (cs ++ ds) (Err e)
refused_before X Y [] ds e p = let z : ◌≡◌ {A = ℕ} 0 1 = cc in absurd (omega arith)
refused_before X Y (C ∷ cs) ds e (inl p) = inl (p.0, (p.1.0, ap Err (same_refusal X e p.0 p.1.1)))
refused_before X Y (C ∷ cs) ds e (inr p) = inr (p.0, refused_before X Y cs ds e p.1)

-- Where the first checks give none, the others decide.
pub decided_behind : {Y : Type 0} (cs ds : List (Refused → Type 0)) (r : Result Y Refused) → NoneOf cs → FirstOf ds r → FirstOf (cs ++ ds) r
decided_behind [] ds r none p = p
decided_behind (C ∷ cs) ds r none p = inr (none.0, decided_behind cs ds r none.1 p)

-- Either the first checks refuse, or they give none and the others decide.
pub parted : (X : Type 0) {Y : Type 0} (cs ds : List (Refused → Type 0)) (r : Result Y Refused) → FirstOf (cs ++ ds) r →
    ((e : Refused) × (FirstOf {X = X} cs (Err e) × (r ≡ Err e))) ⊎ (NoneOf cs × FirstOf ds r)
parted X [] ds r p = inr (tt, p)
parted X (C ∷ cs) ds r (inl p) = inl (p.0, (inl (p.0, (p.1.0, refl)), p.1.1))
parted X (C ∷ cs) ds r (inr p) = elim (parted X cs ds r p.1) [
  | inl q ↦ inl (q.0, (inr (p.0, q.1.0), q.1.1))
  | inr q ↦ inr ((p.0, q.0), q.1)
]
