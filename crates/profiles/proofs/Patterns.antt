-- Codes that follow one another in a list.
use Rattle.std.proofs.Common.{◌≡◌, Bool, true, ◌&&◌, ◌||◌, List, [], ◌∷◌, ◌++◌, ⊎_elim, arith}
use Rattle.std.proofs.lemmas.Bool.{or_cases, or_right, and_parts}
use Rattle.graph.specs.declared.code.Code.{Code}
use Rattle.profiles.specs.Patterns.{followed, any}

pub Stays : (List Code → Bool) → Type 0
Stays q = (c : Code) (cs : List Code) → q cs ≡ true → q (c ∷ cs) ≡ true

-- a code that comes before takes nothing away
pub followed_stays : (p : Code → Bool) (q : List Code → Bool) → Stays (followed p q)
unfolding Stays
followed_stays p q c cs e = or_right (p c && q cs) (followed p q cs) e

-- what stands after some code stands in the whole
pub followed_rest : (p : Code → Bool) (q : List Code → Bool) → Stays q → (cs : List Code) → followed p q cs ≡ true → q cs ≡ true
unfolding Stays
followed_rest p q stays [] e = absurd (grind arith)
followed_rest p q stays (c ∷ cs) e =
    stays c cs (⊎_elim (λ h. (and_parts (p c) (q cs) h).1) (λ h. followed_rest p q stays cs h) (or_cases (p c && q cs) (followed p q cs) e))

-- so once the first is met, only the rest matters
pub met_first : (p : Code → Bool) (q : List Code → Bool) → Stays q → (c : Code) (cs : List Code) → p c ≡ true → q cs ≡ followed p q (c ∷ cs)
met_first p q stays c cs e = let h = followed_rest p q stays cs in grind arith

pub any_push : (p : Code → Bool) (cs : List Code) (c : Code) → any p (cs ++ c ∷ []) ≡ (any p cs || p c)
any_push p [] c = grind arith
any_push p (d ∷ cs) c = let h = any_push p cs c in grind arith
