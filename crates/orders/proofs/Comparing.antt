-- Which of two lists comes first.
use Rattle.std.proofs.Common.{◌≡◌, ℕ, zero, suc, ◌<◌, List, [], ◌∷◌, length, get_or, take, refl, ap, inl, inr, arith}
use Rattle.cycles.specs.Cycles.{NotAfter}

pub not_after_itself : (p : List ℕ) → NotAfter p p
not_after_itself [] = tt
not_after_itself (x ∷ p) = inr (refl, not_after_itself p)

-- The lower item at the first place where they differ decides.
pub lower_first : (m : ℕ) (p q : List ℕ) → take m p ≡ take m q → m < length p → m < length q → get_or p m 0 < get_or q m 0 → NotAfter p q
lower_first m [] q e h k l = tt
lower_first m (x ∷ p) [] e h k l = absurd (omega arith)
lower_first zero (x ∷ p) (y ∷ q) e h k l = inl l
lower_first (suc m) (x ∷ p) (y ∷ q) e h k l =
    let one : x ≡ y = ap (λ s. get_or s 0 0) e in
    let rest : take m p ≡ take m q = ap (λ s. tail s) e in
    inr (one, lower_first m p q rest (omega arith) (omega arith) l)
  where
    tail : List ℕ → List ℕ
    tail [] = []
    tail (z ∷ zs) = zs
