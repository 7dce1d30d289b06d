-- The order that choice makes, from the laws.
use Rattle.std.proofs.Common.{◌≡◌, ⊎_elim}
use Rattle.measures.specs.Laws.{Laws}
use Rattle.measures.specs.Paths.{Beats}

module _ {W : Type 0} {none here : W} {joined better : W → W → W} (laws : Laws none here joined better) where
  pub better_same : (x : W) → better x x ≡ x
  better_same x = ⊎_elim (λ e. e) (λ e. e) (laws.better_picks x x)

  pub beats_trans : {x y z : W} → Beats better x y → Beats better y z → Beats better x z
  beats_trans {x} {y} {z} p q = cc (laws.better_assoc x y z)

  pub beats_left : (x y : W) → Beats better (better x y) x
  beats_left x y = cc (laws.better_comm (better x y) x, laws.better_assoc x x y, better_same x)

  pub beats_right : (x y : W) → Beats better (better x y) y
  beats_right x y = cc (laws.better_assoc x y y, better_same y)

  pub beats_better : {x y z : W} → Beats better z x → Beats better z y → Beats better z (better x y)
  beats_better {x} {y} {z} p q = cc (laws.better_assoc z x y)

  pub joined_right : (x : W) {y z : W} → Beats better y z → Beats better (joined x y) (joined x z)
  joined_right x {y} {z} p = cc (laws.joined_better x y z)

  pub joined_left : {x y : W} (z : W) → Beats better x y → Beats better (joined x z) (joined y z)
  joined_left {x} {y} z p = cc (laws.better_joined x y z)

  -- A way in front makes nothing better.
  pub beats_after : (x y : W) → Beats better y (joined x y)
  beats_after x y = cc (laws.here_joined y, laws.better_joined here x y, laws.here_wins x)
