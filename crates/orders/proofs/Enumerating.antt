-- Lists of lists, one behind the other.
use Rattle.std.proofs.Common.{◌≡◌, ℕ, ◌+◌, ◌-◌, ◌<◌, ◌≤◌, ◌⊎◌, List, [], ◌∷◌, ◌++◌, length, get_or, sym, refl, ap, ◌∙◌, subst, inl, inr, arith, length-append}
use Rattle.std.proofs.lemmas.List.{get_or_append_left, get_or-append_right, get_or-append-add}
use Rattle.std.proofs.lemmas.Bool.{cases_lt}
use Rattle.orders.specs.Counting.{Counted}

pub counted_none : {P : List ℕ → Type 0} → ((q : List ℕ) → P q → ⊥) → Counted P 0
counted_none empty = record {
  lists = [];
  enumerates = record { each = λ q s. absurd (omega (arith, s.within)); all = λ q p. absurd (empty q p); once = λ i j h k. absurd (omega arith) };
  count = refl;
}

pub counted_one : {P : List ℕ → Type 0} (p : List ℕ) → P p → ((q : List ℕ) → P q → p ≡ q) → Counted P 1
counted_one {P} p has only = record {
  lists = p ∷ [];
  enumerates = record {
    each = λ q s. let first : s.place ≡ 0 = omega (arith, s.within) in subst P (ap (λ i. get_or (p ∷ []) i []) (sym first) ∙ s.there) has;
    all = λ q h. record { place = 0; within = omega arith; there = only q h };
    once = λ i j h k. absurd (omega arith);
  };
  count = refl;
}

pub counted_like : {P Q : List ℕ → Type 0} (r : ℕ) → ((q : List ℕ) → P q → Q q) → ((q : List ℕ) → Q q → P q) → Counted P r → Counted Q r
counted_like r to from c = record {
  lists = c.lists;
  enumerates = record {
    each = λ q s. to q (c.enumerates.each q s);
    all = λ q h. c.enumerates.all q (from q h);
    once = c.enumerates.once;
  };
  count = c.count;
}

-- Those with P and those with Q, where none has both.
pub counted_both : {P Q : List ℕ → Type 0} (r s : ℕ) → Counted P r → Counted Q s → ((q : List ℕ) → P q → Q q → ⊥) → Counted (λ q. P q ⊎ Q q) (r + s)
counted_both {P} {Q} r s c d apart =
    let xs = c.lists in
    let ys = d.lists in
    let long = length-append xs ys in
    let left : (i : ℕ) → i < length xs → get_or (xs ++ ys) i [] ≡ get_or xs i [] = λ i h. get_or_append_left xs ys [] i h in
    let right : (i : ℕ) → length xs ≤ i → get_or (xs ++ ys) i [] ≡ get_or ys (i - length xs) [] = λ i h. get_or-append_right xs ys (length xs) i [] refl h in
    let at_left : (i : ℕ) → i < length xs → P (get_or xs i []) = λ i h. c.enumerates.each (get_or xs i []) (record { place = i; within = h; there = refl }) in
    let at_right : (i : ℕ) → i < length ys → Q (get_or ys i []) = λ i h. d.enumerates.each (get_or ys i []) (record { place = i; within = h; there = refl }) in
    record {
      lists = xs ++ ys;
      enumerates = record {
        each = λ q st. elim (cases_lt st.place (length xs)) [
          | inl h ↦ inl (subst P (sym (left st.place h) ∙ st.there) (at_left st.place h))
          | inr h ↦ inr (subst Q (sym (right st.place h) ∙ st.there) (at_right (st.place - length xs) (omega (arith, st.within))))
        ];
        all = λ q h. elim h [
          | inl p ↦ let st = c.enumerates.all q p in record { place = st.place; within = omega (arith, st.within); there = left st.place st.within ∙ st.there }
          | inr p ↦
              let st = d.enumerates.all q p in
              record { place = length xs + st.place; within = omega (arith, st.within); there = get_or-append-add xs ys st.place [] ∙ st.there }
        ];
        once = λ i j h k e. elim (cases_lt j (length xs)) [
          | inl l ↦ c.enumerates.once i j h l (sym (left i (omega arith)) ∙ e ∙ left j l)
          | inr l ↦ elim (cases_lt i (length xs)) [
            | inl f ↦
                let same : get_or xs i [] ≡ get_or ys (j - length xs) [] = sym (left i f) ∙ e ∙ right j l in
                apart (get_or ys (j - length xs) []) (subst P same (at_left i f)) (at_right (j - length xs) (omega arith))
            | inr f ↦ d.enumerates.once (i - length xs) (j - length xs) (omega arith) (omega arith) (sym (right i f) ∙ e ∙ right j l)
          ]
        ];
      };
      count = omega (arith, c.count, d.count);
    }
