-- What `any` answers over a range of numbers, and over a slice of them.
use Rattle.std.proofs.Common.{◌≡◌, ℕ, ◌+◌, ◌-◌, ◌<◌, ◌≤◌, Bool, true, false, List, length, get_or, Decides, Option, sym, refl, ◌∙◌, subst, arith}
use Rattle.std.specs.Prelude.{MatchOption, MatchBool}
use Rattle.std.specs.List.{range_with_len, FoldsTo, AllWithin, HoldsAt}
use Rattle.std.specs.Fn.{Called}
use Rattle.std.specs.Iterator.{YieldsThen}
use Rattle.std.specs.declared.ops.Range.{Range}
use Rattle.std.specs.declared.slice.Iter.{Iter}
use Rattle.std.specs.Slice.Iter.{iter_rest}
use Rattle.std.proofs.iter.Yields.{fronts, nat_range_steps}
use Rattle.std.proofs.lemmas.Iterator.{YieldsList-from_range, YieldsList-from_slice, cases_from_any}
use Rattle.std.proofs.lemmas.Bool.{false≢true}
use Rattle.std.proofs.lemmas.List.FromFn.{length-range_with_len, get_or-range_with_len}
use Rattle.axioms.proofs.Entries.{decides_none}
use denote.Param.Members.{Mut}
use denote.Ref.{Bor}

-- Some number from a to below b has P.
abbrev pub Among : ℕ → ℕ → (ℕ → Type 0) → Type 0
Among a b P = (x : ℕ) × (a ≤ x) × (x < b) × P x

module _ (a b : ℕ) (P : ℕ → Type 0) where
  found : (k : ℕ) → k < length (range_with_len a (b - a)) → HoldsAt P (range_with_len a (b - a)) k → Among a b P
  found k h there =
      let long = length-range_with_len a (b - a) in
      (a + k, omega arith, omega arith, subst P (get_or-range_with_len a (b - a) k 0 (omega arith)) (there 0))

  missing : AllWithin (λ x. P x → ⊥) (range_with_len a (b - a)) 0 (length (range_with_len a (b - a))) → Among a b P → ⊥
  missing none h =
      let long = length-range_with_len a (b - a) in
      let place : a + (h.0 - a) ≡ h.0 = omega (arith, h.1) in
      none (h.0 - a) 0 (omega arith) (omega (arith, h.1, h.2))
      (subst P (sym (get_or-range_with_len a (b - a) (h.0 - a) 0 (omega (arith, h.1, h.2)) ∙ place)) h.3)

  told : (r : Bool) → MatchBool r ((k : ℕ) × (k < length (range_with_len a (b - a))) × HoldsAt P (range_with_len a (b - a)) k)
      (AllWithin (λ x. P x → ⊥) (range_with_len a (b - a)) 0 (length (range_with_len a (b - a)))) → Decides r (Among a b P)
  told true w = (λ _. found w.0 w.1 w.2, λ _. refl)
  told false w = decides_none (missing w)

  pub any_among : {F : Type 0} {g : Mut F (ℕ × Unit {0}) Bool} {s : Range ℕ} (u : Range ℕ) (f : F) (r : Bool) → s ≡ record { start = a; end = b } →
      (xs : List ℕ) × (o : Option ℕ) × (j : F) × YieldsThen nat_range_steps s xs o u × FoldsTo (λ p x q. Called g p (x, tt) false q) f xs j
      × MatchOption o (r ≡ false) (λ x. (r ≡ true) × ((h : F) × Called g j (x, tt) true h)) →
      ((x : ℕ) (t : Bool) (q : F) → Called g f (x, tt) t q → (q ≡ f) × Decides t (P x)) → Decides r (Among a b P)
  any_among u f r is ran asked =
      told r (cases_from_any u f r P (λ x. P x → ⊥) ran (YieldsList-from_range a b (b - a) is refl)
      (λ x q k. (asked x true q k).1.0 refl) (λ x q k. let h = asked x false q k in (h.0, λ p. false≢true (h.1.1 p))))

-- Some number of a list has P.
abbrev pub Within : List ℕ → (ℕ → Type 0) → Type 0
Within xs P = (i : ℕ) × (i < length xs) × P (get_or xs i 0)

module _ (xs : List ℕ) (P : ℕ → Type 0) where
  told_within : (r : Bool) → MatchBool r ((k : ℕ) × (k < length xs) × HoldsAt P xs k) (AllWithin (λ x. P x → ⊥) xs 0 (length xs)) → Decides r (Within xs P)
  told_within true w = (λ _. (w.0, w.1, w.2 0), λ _. refl)
  told_within false w = decides_none (λ (h : Within xs P). w h.0 0 (omega arith) h.1 h.2)

  pub any_within : {F : Type 0} {g : Mut F (Bor ℕ × Unit {0}) Bool} {s : Iter ℕ} (u : Iter ℕ) (f : F) (r : Bool) → iter_rest s ≡ xs →
      (ys : List (Bor ℕ)) × (o : Option (Bor ℕ)) × (j : F) × YieldsThen fronts s ys o u × FoldsTo (λ p x q. Called g p (x, tt) false q) f ys j
      × MatchOption o (r ≡ false) (λ x. (r ≡ true) × ((h : F) × Called g j (x, tt) true h)) →
      ((x : Bor ℕ) (t : Bool) (q : F) → Called g f (x, tt) t q → (q ≡ f) × Decides t (P x.now)) → Decides r (Within xs P)
  any_within u f r is ran asked =
      told_within r (cases_from_any u f r P (λ x. P x → ⊥) ran (YieldsList-from_slice xs is)
      (λ x q k. (asked x true q k).1.0 refl) (λ x q k. let h = asked x false q k in (h.0, λ p. false≢true (h.1.1 p))))

in_range : (n k d : ℕ) → k < n → get_or (range_with_len 0 n) k d ≡ k
in_range n k d h = get_or-range_with_len 0 n k d h ∙ omega arith

-- The same of a range from 0, whose lower end goes without saying.
pub decided_below : (n : ℕ) (r : Bool) (P : ℕ → Type 0) →
    MatchBool r ((k : ℕ) × (k < length (range_with_len 0 n)) × HoldsAt P (range_with_len 0 n) k)
    (AllWithin (λ j. P j → ⊥) (range_with_len 0 n) 0 (length (range_with_len 0 n))) → Decides r ((j : ℕ) × (j < n) × P j)
decided_below n true P (k, h, holds) =
    let size = length-range_with_len 0 n in
    let within : k < n = omega arith in
    (λ _. (k, within, subst P (in_range n k 0 within) (holds 0)), λ _. refl)
decided_below n false P none =
    let size = length-range_with_len 0 n in
    (λ e. cc, λ t. absurd (none t.0 0 (omega arith) (omega (arith, t.1)) (subst P (sym (in_range n t.0 0 t.1)) t.2)))
