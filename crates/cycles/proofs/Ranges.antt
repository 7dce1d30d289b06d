-- What a search over a range of numbers tells of the numbers in it.
use Rattle.std.proofs.Common.{◌≡◌, ℕ, zero, suc, ◌+◌, ◌-◌, ◌<◌, ◌≤◌, ◌⊎◌, min, Bool, true, false, MatchBool, MatchOption, Option, Some, None, List, [], ◌∷◌, length, get_or, map, refl, sym, ap, ◌∙◌, subst, inl, inr, arith}
use Rattle.std.specs.List.{AllWithin, FoldsTo, HoldsAt, fold, range_with_len, reduce}
use Rattle.std.specs.Iterator.{YieldsThen}
use Rattle.std.specs.Option.{option_map}
use Rattle.std.specs.Fn.{Called}
use lib.ListN.{length-map}
use denote.Param.Members.{Mut}
use Rattle.std.specs.declared.ops.Range.{Range}
use Rattle.std.proofs.iter.Yields.{nat_range_steps}
use Rattle.std.proofs.lemmas.Bool.{cases_lt}
use Rattle.std.proofs.lemmas.Iterator.{YieldsList-from_range, cases_from_all, cases_from_any}
use Rattle.std.proofs.lemmas.List.FromFn.{length-range_with_len, get_or-range_with_len, get_or-map-range_with_len}

each_in_range : (P : ℕ → Type 0) (a b : ℕ) → AllWithin P (range_with_len a (b - a)) 0 (length (range_with_len a (b - a))) → (k : ℕ) → a ≤ k → k < b → P k
each_in_range P a b h k from below =
    let long = length-range_with_len a (b - a) in
    subst P (get_or-range_with_len a (b - a) (k - a) 0 (omega arith) ∙ omega arith) (h (k - a) 0 (omega arith) (omega arith))

some_in_range : (P : ℕ → Type 0) (a b : ℕ) → (k : ℕ) × (k < length (range_with_len a (b - a))) × HoldsAt P (range_with_len a (b - a)) k → (k : ℕ) × (a ≤ k) × (k < b) × P k
some_in_range P a b h =
    let long = length-range_with_len a (b - a) in
    let below = h.1 in
    (a + h.0, omega arith, omega arith, subst P (get_or-range_with_len a (b - a) h.0 0 (omega arith)) (h.2 0))

-- `any` over a range.
pub any_in_Range : {F : Type 0} {g : Mut F (ℕ × Unit {0}) Bool} (s u : Range ℕ) (f : F) (r : Bool) (Yes No : ℕ → Type 0) →
    (xs : List ℕ) × (o : Option ℕ) × (j : F) × YieldsThen nat_range_steps s xs o u × FoldsTo (λ p x q. Called g p (x, tt) false q) f xs j × MatchOption o (r ≡ false) (λ x. (r ≡ true) × ((h : F) × Called g j (x, tt) true h)) →
    ((x : ℕ) (q : F) → Called g f (x, tt) true q → Yes x) →
    ((x : ℕ) (q : F) → Called g f (x, tt) false q → (q ≡ f) × No x) →
    MatchBool r ((k : ℕ) × (s.start ≤ k) × (k < s.end) × Yes k) ((k : ℕ) → s.start ≤ k → k < s.end → No k)
any_in_Range s u f r Yes No ran hit miss =
    read r (cases_from_any u f r Yes No ran (YieldsList-from_range s.start s.end (s.end - s.start) refl refl) hit miss)
  where
    read : (r : Bool) → MatchBool r ((k : ℕ) × (k < length (range_with_len s.start (s.end - s.start))) × HoldsAt Yes (range_with_len s.start (s.end - s.start)) k) (AllWithin No (range_with_len s.start (s.end - s.start)) 0 (length (range_with_len s.start (s.end - s.start)))) →
        MatchBool r ((k : ℕ) × (s.start ≤ k) × (k < s.end) × Yes k) ((k : ℕ) → s.start ≤ k → k < s.end → No k)
    read true h = some_in_range Yes s.start s.end h
    read false h = each_in_range No s.start s.end h

-- `all` over a range.
pub all_in_Range : {F : Type 0} {g : Mut F (ℕ × Unit {0}) Bool} (s u : Range ℕ) (f : F) (r : Bool) (Yes No : ℕ → Type 0) →
    (xs : List ℕ) × (o : Option ℕ) × (j : F) × YieldsThen nat_range_steps s xs o u × FoldsTo (λ p x q. Called g p (x, tt) true q) f xs j × MatchOption o (r ≡ true) (λ x. (r ≡ false) × ((h : F) × Called g j (x, tt) false h)) →
    ((x : ℕ) (q : F) → Called g f (x, tt) true q → (q ≡ f) × Yes x) →
    ((x : ℕ) (q : F) → Called g f (x, tt) false q → No x) →
    MatchBool r ((k : ℕ) → s.start ≤ k → k < s.end → Yes k) ((k : ℕ) × (s.start ≤ k) × (k < s.end) × No k)
all_in_Range s u f r Yes No ran hit miss =
    read r (cases_from_all u f r Yes No ran (YieldsList-from_range s.start s.end (s.end - s.start) refl refl) hit miss)
  where
    read : (r : Bool) → MatchBool r (AllWithin Yes (range_with_len s.start (s.end - s.start)) 0 (length (range_with_len s.start (s.end - s.start)))) ((k : ℕ) × (k < length (range_with_len s.start (s.end - s.start))) × HoldsAt No (range_with_len s.start (s.end - s.start)) k) →
        MatchBool r ((k : ℕ) → s.start ≤ k → k < s.end → Yes k) ((k : ℕ) × (s.start ≤ k) × (k < s.end) × No k)
    read true h = each_in_range Yes s.start s.end h
    read false h = some_in_range No s.start s.end h

fold_min_le : (x : ℕ) (ys : List ℕ) → fold min x ys ≤ x
fold_min_le x [] = omega arith
fold_min_le x (y ∷ ys) = omega (arith, fold_min_le (min x y) ys)

fold_min_low : (x : ℕ) (ys : List ℕ) (k : ℕ) → k < length ys → fold min x ys ≤ get_or ys k 0
fold_min_low x [] k h = absurd (omega arith)
fold_min_low x (y ∷ ys) zero h = omega (arith, fold_min_le (min x y) ys)
fold_min_low x (y ∷ ys) (suc k) h = fold_min_low (min x y) ys k (omega arith)

fold_min_is : (x : ℕ) (ys : List ℕ) → (fold min x ys ≡ x) ⊎ ((k : ℕ) × (k < length ys) × (get_or ys k 0 ≡ fold min x ys))
fold_min_is x [] = inl refl
fold_min_is x (y ∷ ys) =
    elim (fold_min_is (min x y) ys) [
      | inl e ↦ elim (cases_lt y x) [
        | inl l ↦ inr (0, omega arith, omega arith)
        | inr l ↦ inl (omega arith)
      ]
      | inr h ↦ let below = h.1 in inr (suc h.0, omega arith, h.2)
    ]

-- The least of a list: it stands there, and none is below it.
pub least_of : (all : List ℕ) → MatchOption (reduce min all) (length all ≡ 0) (λ m. ((k : ℕ) × (k < length all) × (get_or all k 0 ≡ m)) × ((k : ℕ) → k < length all → m ≤ get_or all k 0))
least_of [] = refl
least_of (x ∷ ys) = (at, low)
  where
    at : (k : ℕ) × (k < length (x ∷ ys)) × (get_or (x ∷ ys) k 0 ≡ fold min x ys)
    at = elim (fold_min_is x ys) [
      | inl e ↦ (0, omega arith, sym e)
      | inr h ↦ let below = h.1 in (suc h.0, omega arith, h.2)
    ]

    low : (k : ℕ) → k < length (x ∷ ys) → fold min x ys ≤ get_or (x ∷ ys) k 0
    low zero h = fold_min_le x ys
    low (suc k) h = fold_min_low x ys k (omega arith)

-- `min` of what a function gives of the numbers below n.
pub least_in_range : (f : ℕ → ℕ) (n : ℕ) (r : Option ℕ) → option_map (λ x. x) r ≡ reduce min (map f (range_with_len 0 (n - 0))) →
    MatchOption r (n ≡ 0) (λ m. ((k : ℕ) × (k < n) × (f k ≡ m)) × ((k : ℕ) → k < n → m ≤ f k))
least_in_range f n r e' = go r (subst (λ o. MatchOption o (length all ≡ 0) (λ m. ((k : ℕ) × (k < length all) × (get_or all k 0 ≡ m)) × ((k : ℕ) → k < length all → m ≤ get_or all k 0))) (sym e ∙ same r) (least_of all))
  where
    e : option_map (λ x. x) r ≡ reduce min (map f (range_with_len 0 n))
    e = e' ∙ ap (λ m. reduce min (map f (range_with_len 0 m))) (omega arith)

    all : List ℕ
    all = map f (range_with_len 0 n)

    same : (o : Option ℕ) → option_map (λ (x : ℕ). x) o ≡ o
    same None = refl
    same (Some x) = refl

    long : length all ≡ n
    long = length-map (range_with_len 0 n) f ∙ length-range_with_len 0 n

    is : (k : ℕ) → k < n → get_or all k 0 ≡ f k
    is k h = get_or-map-range_with_len f 0 n k k 0 h (omega arith)

    go : (o : Option ℕ) → MatchOption o (length all ≡ 0) (λ m. ((k : ℕ) × (k < length all) × (get_or all k 0 ≡ m)) × ((k : ℕ) → k < length all → m ≤ get_or all k 0)) →
        MatchOption o (n ≡ 0) (λ m. ((k : ℕ) × (k < n) × (f k ≡ m)) × ((k : ℕ) → k < n → m ≤ f k))
    go None h = sym long ∙ h
    go (Some m) h =
        let below : h.0.0 < n = rw (← long) h.0.1 in (
          (h.0.0, below, sym (is h.0.0 below) ∙ h.0.2),
          λ k p. subst (λ x. m ≤ x) (is k p) (h.1 k (rw long p)),
        )
