-- Refusals are equal exactly if they are one, and exactly if their numbers are equal.
use Rattle.std.proofs.Common.{◌≡◌, ℕ, Decides, ◌==◌, refl, rules}
use Rattle.std.specs.Cmp.Rules.{comparing}
use Rattle.graph.specs.declared.refusal.Refusal.{Refusal}
use Rattle.graph.specs.contracts.refusal.RefusalPartialEq.TheImpl.{ghosts}
use Rattle.graph.specs.Refusals.{number}

pub number_decides : (x y : Refusal) → Decides (number x == number y) (x ≡ y)
number_decides x y = search (comparing, rules)

pub equal_decides : (x y : Refusal) → Decides (ghosts.eq x y) (x ≡ y)
equal_decides x y = number_decides x y

pub equal_by_number : (x y : Refusal) → ghosts.eq x y ≡ (number x == number y)
equal_by_number x y = refl
