-- The bytes of a list of steps: how many there are, and one step more.
use Rattle.std.proofs.Common.{◌≡◌, ℕ, ◌+◌, ◌*◌, ◌<◌, List, [], ◌∷◌, ◌++◌, length, get_or, take, sym, refl, ap, ◌∙◌, arith, length-append}
use Rattle.std.specs.List.{flat_map}
use Rattle.std.proofs.lemmas.List.{take_more, flat_map_more}
use Rattle.sheets.specs.declared.step.Step.{Step}
use Rattle.sheets.specs.Steps.{step_bytes}

pub length_steps : (ss : List Step) → length (flat_map step_bytes ss) ≡ length ss * 5
length_steps [] = refl
length_steps (s ∷ ss) = length-append (step_bytes s) (flat_map step_bytes ss) ∙ omega (arith, length_steps ss)

pub steps_more : (ss : List Step) (i : ℕ) (d : Step) → i < length ss →
    flat_map step_bytes (take i ss) ++ step_bytes (get_or ss i d) ≡ flat_map step_bytes (take (i + 1) ss)
steps_more ss i d h =
    flat_map_more step_bytes [] (take i ss) (get_or ss i d) ∙ ap (flat_map step_bytes) (sym (take_more ss i d h))
