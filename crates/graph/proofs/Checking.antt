-- What an answer of the checks tells.
use Rattle.std.proofs.Common.{◌≡◌, ℕ, Some, None, Ok, Err, Option, refl, arith}
use Rattle.graph.specs.declared.refusal.Refusal.{Refusal}
use Rattle.graph.specs.Checked.{passed}

pub passed_ok : {X : Type 0} (o : Option Refusal) (x y : X) → Ok y ≡ passed o x → (o ≡ None) × (y ≡ x)
passed_ok (Some r) x y p = let z : ◌≡◌ {A = ℕ} 0 1 = cc in absurd (omega arith)
passed_ok None x y p = (refl, cc)

pub passed_err : {X : Type 0} (o : Option Refusal) (x : X) (e : Refusal) → Err e ≡ passed o x → o ≡ Some e
passed_err (Some r) x e p = cc
passed_err None x e p = let z : ◌≡◌ {A = ℕ} 0 1 = cc in absurd (omega arith)
