-- The laws of a measure, over what its values mean.
--
--   none          there is no path
--   here          the path of no steps
--   joined x y    a path of measure x and, from its end, a path of measure y
--   better x y    the better of two measures
--   Laws          what every measure shows
use Rattle.std.specs.Prelude.{◌≡◌, ◌⊎◌}

pub record Laws {W : Type 0} (none here : W) (joined better : W → W → W) : Type 0 where
  -- choice is associative and commutative, and picks one of its two
  pub better_assoc : (x y z : W) → better (better x y) z ≡ better x (better y z)
  pub better_comm : (x y : W) → better x y ≡ better y x
  pub better_picks : (x y : W) → (better x y ≡ x) ⊎ (better x y ≡ y)
  -- joining is associative, and distributes over choice on both sides
  pub joined_assoc : (x y z : W) → joined (joined x y) z ≡ joined x (joined y z)
  pub joined_better : (x y z : W) → joined x (better y z) ≡ better (joined x y) (joined x z)
  pub better_joined : (x y z : W) → joined (better x y) z ≡ better (joined x z) (joined y z)
  -- none is neutral in choice, and absorbs in joining
  pub better_none : (x : W) → better x none ≡ x
  pub joined_none : (x : W) → joined x none ≡ none
  pub none_joined : (x : W) → joined none x ≡ none
  -- here is neutral in joining, and wins every choice
  pub joined_here : (x : W) → joined x here ≡ x
  pub here_joined : (x : W) → joined here x ≡ x
  pub here_wins : (x : W) → better here x ≡ here
