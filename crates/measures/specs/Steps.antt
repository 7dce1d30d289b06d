-- The measure step count.
--
--   Steps         0 to 64 steps, or none, which counts as 65
--   counted x     what the number x means: every number above 64 means none
--   added x y     the sum; a sum above 64 is none
--   fewer x y     the lower of two counts
--   step_laws     the laws of a measure, at step counts
use Rattle.std.specs.Prelude.{◌≡◌, ℕ, ◌+◌, ◌≤◌, min, ◌⊎◌}
use Rattle.std.proofs.Common.{inl, inr, arith}
use mathlib.Core.HLevel.{is_prop→PathP}
use Rattle.std.proofs.Math.Bridge.{le_prop}
use Rattle.std.proofs.Math.Decide.{dec_le}
use Rattle.measures.specs.Laws.{Laws}

pub record Steps : Type 0 where
  pub count : ℕ
  pub within : count ≤ 65

abbrev pub counted : ℕ → Steps
counted n = record { count = min n 65; within = omega arith }

abbrev pub no_steps : Steps
no_steps = counted 65

abbrev pub zero_steps : Steps
zero_steps = counted 0

abbrev pub added : Steps → Steps → Steps
added x y = counted (x.count + y.count)

abbrev pub fewer : Steps → Steps → Steps
fewer x y = record { count = min x.count y.count; within = omega (arith, x.within) }

pub same_steps : (x y : Steps) → x.count ≡ y.count → x ≡ y
same_steps x y p = λ i. record {
  count = p i;
  within = is_prop→PathP (λ j. p j ≤ 65) (λ j. le_prop) x.within y.within i;
}

fewer_picks : (x y : Steps) → (fewer x y ≡ x) ⊎ (fewer x y ≡ y)
fewer_picks x y =
    let a = x.within in
    let b = y.within in
    elim (dec_le x.count y.count) [
      | yes h ↦ inl (same_steps (fewer x y) x (omega arith))
      | no h ↦ inr (same_steps (fewer x y) y (omega arith))
    ]

pub step_laws : Laws no_steps zero_steps added fewer
step_laws = record {
  better_assoc = λ x y z. same_steps _ _ (omega arith);
  better_comm = λ x y. same_steps _ _ (omega arith);
  better_picks = fewer_picks;
  joined_assoc = λ x y z. same_steps _ _ (omega arith);
  joined_better = λ x y z. same_steps _ _ (omega arith);
  better_joined = λ x y z. same_steps _ _ (omega arith);
  better_none = λ x. same_steps _ _ (omega arith);
  joined_none = λ x. same_steps _ _ (omega arith);
  none_joined = λ x. same_steps _ _ (omega arith);
  joined_here = λ x. same_steps _ _ (omega arith);
  here_joined = λ x. same_steps _ _ (omega arith);
  here_wins = λ x. same_steps _ _ (omega arith);
}
