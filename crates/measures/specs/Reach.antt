-- The measure yes/no.
--
--   yes x          0 is no, and every other number is yes
--   yes_no_laws    the laws of a measure, at yes and no
use Rattle.std.specs.Prelude.{◌≡◌, ℕ, Bool, true, false, not, ◌&&◌, ◌||◌, ◌⊎◌, ◌==◌, refl}
use Rattle.std.proofs.Common.{inl, inr}
use Rattle.measures.specs.Laws.{Laws}

abbrev pub yes : ℕ → Bool
yes x = not (x == 0)

or_assoc : (x y z : Bool) → ((x || y) || z) ≡ (x || (y || z))
or_assoc true y z = refl
or_assoc false y z = refl

or_comm : (x y : Bool) → (x || y) ≡ (y || x)
or_comm true true = refl
or_comm true false = refl
or_comm false true = refl
or_comm false false = refl

or_picks : (x y : Bool) → ((x || y) ≡ x) ⊎ ((x || y) ≡ y)
or_picks true y = inl refl
or_picks false y = inr refl

and_assoc : (x y z : Bool) → ((x && y) && z) ≡ (x && (y && z))
and_assoc true y z = refl
and_assoc false y z = refl

and_or : (x y z : Bool) → (x && (y || z)) ≡ ((x && y) || (x && z))
and_or true y z = refl
and_or false y z = refl

or_and : (x y z : Bool) → ((x || y) && z) ≡ ((x && z) || (y && z))
or_and true true true = refl
or_and true true false = refl
or_and true false true = refl
or_and true false false = refl
or_and false y z = refl

or_false : (x : Bool) → (x || false) ≡ x
or_false true = refl
or_false false = refl

and_false : (x : Bool) → (x && false) ≡ false
and_false true = refl
and_false false = refl

and_true : (x : Bool) → (x && true) ≡ x
and_true true = refl
and_true false = refl

pub yes_no_laws : Laws false true ◌&&◌ ◌||◌
yes_no_laws = record {
  better_assoc = or_assoc;
  better_comm = or_comm;
  better_picks = or_picks;
  joined_assoc = and_assoc;
  joined_better = and_or;
  better_joined = or_and;
  better_none = or_false;
  joined_none = and_false;
  none_joined = λ x. refl;
  joined_here = and_true;
  here_joined = λ x. refl;
  here_wins = λ x. refl;
}
