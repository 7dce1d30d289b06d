-- The numbers below n that pass a test, listed by their keys.
use Rattle.std.proofs.Common.{◌≡◌, ℕ, zero, suc, ◌<◌, Bool, true, false, ltb, ◌⊎◌, List, [], ◌∷◌, length, get_or, sym, refl, ap, ◌∙◌, subst, inl, inr, ⊎_elim, le_of_suc-le-suc, not-suc-le-zero, arith}
use Rattle.std.proofs.lemmas.Bool.{ltb-true, ltb-false, cases_eq, cases_order, false≢true}
use Rattle.axioms.specs.Orders.{Listed, Before, Once}

-- x stands in the list
abbrev In : ℕ → List ℕ → Type 0
In x [] = ⊥
In x (y ∷ ys) = (x ≡ y) ⊎ In x ys

in_get_or : (xs : List ℕ) (k : ℕ) → k < length xs → In (get_or xs k 0) xs
in_get_or [] k h = absurd (not-suc-le-zero h)
in_get_or (y ∷ ys) zero h = inl refl
in_get_or (y ∷ ys) (suc k) h = inr (in_get_or ys k (le_of_suc-le-suc h))

in_listed : (xs : List ℕ) (x : ℕ) → In x xs → Listed xs x
in_listed [] x m = absurd m
in_listed (y ∷ ys) x (inl q) = record { place = 0; within = omega arith; there = sym q }
in_listed (y ∷ ys) x (inr m) = let l = in_listed ys x m in record { place = suc l.place; within = omega (arith, l.within); there = l.there }

module _ (key : ℕ → ℕ) where
  -- keys go up along the list
  abbrev pub Sorted : List ℕ → Type 0
  Sorted [] = Unit {0}
  Sorted (x ∷ xs) = ((y : ℕ) → In y xs → key x < key y) × Sorted xs

  abbrev put : Bool → ℕ → ℕ → List ℕ → List ℕ → List ℕ
  put true x y ys zs = x ∷ y ∷ ys
  put false x y ys zs = y ∷ zs

  insert : ℕ → List ℕ → List ℕ
  insert x [] = x ∷ []
  insert x (y ∷ ys) = put (ltb (key x) (key y)) x y ys (insert x ys)

  abbrev insert_if : Bool → ℕ → List ℕ → List ℕ
  insert_if true x xs = insert x xs
  insert_if false x xs = xs

  pub by_key : (ℕ → Bool) → ℕ → List ℕ
  by_key test zero = []
  by_key test (suc n) = insert_if (test n) n (by_key test n)

  insert_out : (x z : ℕ) (xs : List ℕ) → In z (insert x xs) → (z ≡ x) ⊎ In z xs
  unfolding insert
  insert_out x z [] m = m
  insert_out x z (y ∷ ys) m = put_out (ltb (key x) (key y)) (insert_out x z ys) m
    where
      put_out : (t : Bool) → (In z (insert x ys) → (z ≡ x) ⊎ In z ys) → In z (put t x y ys (insert x ys)) → (z ≡ x) ⊎ In z (y ∷ ys)
      put_out true rest m = m
      put_out false rest (inl e) = inr (inl e)
      put_out false rest (inr m) = ⊎_elim inl (λ k. inr (inr k)) (rest m)

  insert_in : (x z : ℕ) (xs : List ℕ) → (z ≡ x) ⊎ In z xs → In z (insert x xs)
  unfolding insert
  insert_in x z [] m = m
  insert_in x z (y ∷ ys) m = put_in (ltb (key x) (key y)) (insert_in x z ys) m
    where
      put_in : (t : Bool) → ((z ≡ x) ⊎ In z ys → In z (insert x ys)) → (z ≡ x) ⊎ In z (y ∷ ys) → In z (put t x y ys (insert x ys))
      put_in true rest m = m
      put_in false rest (inl e) = inr (rest (inl e))
      put_in false rest (inr (inl e)) = inl e
      put_in false rest (inr (inr m)) = inr (rest (inr m))

  insert_sorted : (x : ℕ) (xs : List ℕ) → ((y : ℕ) → In y xs → key y ≡ key x → ⊥) → Sorted xs → Sorted (insert x xs)
  unfolding insert
  insert_sorted x [] apart s = (λ y m. absurd m, tt)
  insert_sorted x (y ∷ ys) apart s = put_sorted (ltb (key x) (key y)) refl (insert_sorted x ys (λ z m. apart z (inr m)) s.1)
    where
      put_sorted : (t : Bool) → ltb (key x) (key y) ≡ t → Sorted (insert x ys) → Sorted (put t x y ys (insert x ys))
      put_sorted true e rest =
          let l = ltb-true (key x) (key y) e in
          (λ z. ⊎_elim (λ q. subst (λ k. key x < key k) (sym q) l) (λ m. omega (arith, s.0 z m)), s)
      put_sorted false e rest =
          let l = ltb-false (key x) (key y) e in
          let other = apart y (inl refl) in
          (λ z m. ⊎_elim (λ q. subst (λ k. key y < key k) (sym q) (omega arith)) (s.0 z) (insert_out x z ys m), rest)

  module _ (test : ℕ → Bool) where
    by_key_out : (n x : ℕ) → In x (by_key test n) → (x < n) × (test x ≡ true)
    unfolding by_key
    by_key_out zero x m = absurd m
    by_key_out (suc n) x m = out (test n) refl (by_key_out n x) m
      where
        out : (t : Bool) → test n ≡ t → (In x (by_key test n) → (x < n) × (test x ≡ true)) → In x (insert_if t n (by_key test n)) → (x < suc n) × (test x ≡ true)
        out true e rest m = ⊎_elim (λ q. (omega arith, ap test q ∙ e)) (λ k. (omega (arith, (rest k).0), (rest k).1)) (insert_out n x (by_key test n) m)
        out false e rest m = (omega (arith, (rest m).0), (rest m).1)

    by_key_in : (n x : ℕ) → x < n → test x ≡ true → In x (by_key test n)
    unfolding by_key
    by_key_in zero x l h = absurd (not-suc-le-zero l)
    by_key_in (suc n) x l h = into (test n) refl (⊎_elim inl (λ q. inr (by_key_in n x (omega arith) h)) (cases_eq x n))
      where
        into : (t : Bool) → test n ≡ t → (x ≡ n) ⊎ In x (by_key test n) → In x (insert_if t n (by_key test n))
        into true e m = insert_in n x (by_key test n) m
        into false e (inl q) = absurd (false≢true (sym e ∙ ap test (sym q) ∙ h))
        into false e (inr m) = m

    pub by_key_sorted : (n : ℕ) → ((a b : ℕ) → a < n → b < n → key a ≡ key b → a ≡ b) → Sorted (by_key test n)
    unfolding by_key
    by_key_sorted zero apart = tt
    by_key_sorted (suc n) apart = add (test n) (by_key_sorted n (λ a b p q. apart a b (omega arith) (omega arith)))
      where
        add : (t : Bool) → Sorted (by_key test n) → Sorted (insert_if t n (by_key test n))
        add true s = insert_sorted n (by_key test n) (λ y m e. let l = (by_key_out n y m).0 in omega (arith, apart y n (omega arith) (omega arith) e)) s
        add false s = s

    pub by_key_passes : (n x : ℕ) → Listed (by_key test n) x → (x < n) × (test x ≡ true)
    by_key_passes n x l = by_key_out n x (subst (λ y. In y (by_key test n)) l.there (in_get_or (by_key test n) l.place l.within))

    pub by_key_lists : (n x : ℕ) → x < n → test x ≡ true → Listed (by_key test n) x
    by_key_lists n x l h = in_listed (by_key test n) x (by_key_in n x l h)

  rising : (xs : List ℕ) → Sorted xs → (i j : ℕ) → i < j → j < length xs → key (get_or xs i 0) < key (get_or xs j 0)
  rising [] s i j h l = absurd (not-suc-le-zero l)
  rising (x ∷ xs) s i zero h l = absurd (not-suc-le-zero h)
  rising (x ∷ xs) s zero (suc j) h l = s.0 (get_or xs j 0) (in_get_or xs j (le_of_suc-le-suc l))
  rising (x ∷ xs) s (suc i) (suc j) h l = rising xs s.1 i j (le_of_suc-le-suc h) (le_of_suc-le-suc l)

  pub sorted_once : (xs : List ℕ) → Sorted xs → Once xs
  sorted_once xs s i j h l e = omega (arith, rising xs s i j h l, ap key e)

  pub before_key : (xs : List ℕ) → Sorted xs → (a b : ℕ) → Before xs a b → key a < key b
  before_key xs s a b h = omega (arith, rising xs s h.i h.j h.earlier h.within, ap key h.first, ap key h.second)

  pub key_before : (xs : List ℕ) → Sorted xs → (a b : ℕ) → Listed xs a → Listed xs b → key a < key b → Before xs a b
  key_before xs s a b p q h = record { i = p.place; j = q.place; earlier = earlier; within = q.within; first = p.there; second = q.there }
    where
      earlier : p.place < q.place
      earlier =
          elim (cases_order p.place q.place) [
            | inl e ↦ absurd (omega (arith, ap key (sym p.there ∙ ap (λ i. get_or xs i 0) e ∙ q.there)))
            | inr (inl l) ↦ l
            | inr (inr l) ↦ absurd (omega (arith, rising xs s q.place p.place l p.within, ap key p.there, ap key q.there))
          ]
