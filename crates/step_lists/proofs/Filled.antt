-- What an array holds that a function of the place fills.
use Rattle.std.proofs.Common.{◌≡◌, ℕ, zero, suc, ◌+◌, ◌<◌, ◌≤◌, List, Option, Some, None, MatchOption, get_or, sym, subst, inl, inr, arith}
use Rattle.std.specs.Array.{IsFromFnResultFrom}
use Rattle.std.specs.Fn.{Called}
use denote.Param.Members.{Mut}
use Rattle.std.proofs.lemmas.Bool.{cases_lt}
use Rattle.measures.specs.Walks.{at, Walks, Fewest}
use Rattle.step_lists.specs.Cycles.{Round}

module _ {F B : Type 0} {g : Mut F (ℕ × Unit {0}) B} (f : F) (ys : List B) (d : B) (P : ℕ → B → Type 0) (fills : (x : ℕ) (y : B) (q : F) → Called g f (x, tt) y q → (q ≡ f) × P x y) where
  pub filled : (i n : ℕ) → IsFromFnResultFrom g f ys i n → (k j : ℕ) → k < n → i + k ≡ j → P j (get_or ys j d)
  filled i zero r k j h e = absurd (omega arith)
  filled i (suc n) r zero j h e =
      let here = fills i r.1 r.0 r.3 in
      let same : i ≡ j = omega arith in
      subst (λ m. P m (get_or ys m d)) same (subst (P i) (sym (r.2.1 d)) here.1)
  filled i (suc n) r (suc k) j h e =
      let here = fills i r.1 r.0 r.3 in
      filled (i + 1) n (subst (λ p. IsFromFnResultFrom g p ys (i + 1) n) here.0 r.4) k j (omega arith) (omega arith)

-- What a settled table has at a place of its diagonal, if that is a count.
pub round_at : (xs ys : List ℕ) → Fewest 64 xs ys → (v : ℕ) → v < 64 → (r : Option ℕ) → MatchOption r (64 < at 64 ys v v) (λ k. (k ≡ at 64 ys v v) × (k ≤ 64)) →
    MatchOption r ((m : ℕ) → Walks 64 xs v v m → 64 < m) (Round xs v)
round_at xs ys found v h None over = λ m w. elim (cases_lt 64 m) [ inl l ↦ l | inr l ↦ omega (arith, found.fewest v v m w l) ]
round_at xs ys found v h (Some k) is =
    let same = sym is.0 in
    let small = is.1 in
    record {
      walked = subst (Walks 64 xs v v) same (found.walked v v h h (omega arith));
      small = small;
      fewest = λ m w few. omega (arith, found.fewest v v m w few);
    }
