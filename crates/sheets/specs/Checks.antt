-- Checks in their order. A check is a relation to the refusals that it gives.
--
--   FirstOf cs r   r is the refusal of the first check of cs that gives one; where none does, r passes
use Rattle.std.specs.Prelude.{◌≡◌, true, ◌⊎◌, List, [], ◌∷◌, is_ok, Err, Result}

abbrev pub FirstOf : {X E : Type 0} → List (E → Type 0) → Result X E → Type 0
FirstOf [] r = is_ok r ≡ true
FirstOf {E = E} (C ∷ cs) r = ((e : E) × (C e × (r ≡ Err e))) ⊎ (((e : E) → C e → ⊥) × FirstOf cs r)
