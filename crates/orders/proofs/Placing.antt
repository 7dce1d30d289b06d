-- The steps of the search for an order.
use Rattle.std.proofs.Common.{◌≡◌, ℕ, ◌+◌, ◌<◌, ◌≤◌, true, false, Option, Some, None, List, [], ◌∷◌, ◌++◌, length, get_or, take, drop, set, sym, refl, ap, ◌∙◌, subst, inl, inr, arith}
use Rattle.std.specs.Option.{is_some}
use Rattle.std.proofs.lemmas.List.{length_push, length-take-le, get_or_append_left, get_or_push, get_or-take, get_or-set_same, take-append-drop, take-append-le, take_at, take_more, take_more_set, take-set, take-take, take_all, drop-set-lt}
use Rattle.std.proofs.lemmas.Bool.{cases_lt, cases_order, both_ways}
use Rattle.cycles.specs.Cycles.{NotAfter}
use Rattle.orders.specs.Extending.{Lined, Extended}
use Rattle.orders.specs.Orders.{Permutation, Begins, Order, Free, Precedes}
use Rattle.orders.specs.declared.precedence.Precedence.{Precedence}
use Rattle.orders.proofs.Comparing.{not_after_itself, lower_first}

-- A free item goes behind the placed ones.
lined_push : (b : Precedence) (p : List ℕ) (y : ℕ) → Lined b p → Free b p y → y < b.count → Lined b (p ++ (y ∷ []))
lined_push b p y l f h =
    let long = length_push p y in
    let old : (i : ℕ) → i < length p → get_or (p ++ (y ∷ [])) i 0 ≡ get_or p i 0 = λ i k. get_or_append_left p (y ∷ []) 0 i k in
    let new : (i : ℕ) → length p ≡ i → get_or (p ++ (y ∷ [])) i 0 ≡ y = λ i e. get_or_push p y 0 i e in
    record {
      below = λ i k. elim (cases_lt i (length p)) [
        | inl a ↦ rw (old i a) (l.below i a)
        | inr a ↦ rw (new i (omega arith)) h
      ];
      once = λ i j k m e. elim (cases_lt j (length p)) [
        | inl a ↦ l.once i j k a (sym (old i (omega arith)) ∙ e ∙ old j a)
        | inr a ↦ f.new (record { place = i; within = omega arith; there = sym (old i (omega arith)) ∙ e ∙ new j (omega arith) })
      ];
      respects = λ j k x r. elim (cases_lt j (length p)) [
        | inl a ↦ rw (take-append-le j p (y ∷ []) (omega arith)) (l.respects j a x (subst (Precedes b x) (old j a) r))
        | inr a ↦ rw (take_at p (y ∷ []) j (omega arith)) (f.ready x (subst (Precedes b x) (new j (omega arith)) r))
      ];
    }

pub lined_more : (b : Precedence) (out : List ℕ) (m item : ℕ) → m < length out → item < b.count → Lined b (take m out) → Free b (take m out) item → Lined b (take (m + 1) (set out m item))
lined_more b out m item room h l f =
    subst (Lined b) (sym (take_more_set out m item room)) (lined_push b (take m out) item l f h)

pub lined_permutation : (b : Precedence) (p : List ℕ) → length p ≡ b.count → Lined b p → Permutation b.count p
lined_permutation b p whole l = record { whole = whole; below = l.below; once = l.once }

-- Each item of an order is free behind those before it.
pub order_free : (b : Precedence) (q : List ℕ) (m : ℕ) → Order b q → m < length q → Free b (take m q) (get_or q m 0)
order_free b q m o h =
    let long = length-take-le m q (omega arith) in
    record {
      new = λ a.
          let w : a.place < m = subst (λ k. a.place < k) long a.within in
          o.permutation.once a.place m w h (sym (get_or-take m q a.place 0 w) ∙ a.there);
      ready = o.respects m h;
    }

pub begins : (p q : List ℕ) (m : ℕ) → take m q ≡ p → Begins p q
begins p q m e = (drop m q, sym (take-append-drop m q) ∙ ap (λ r. r ++ drop m q) e)

-- The orders that go on with an item are those that begin with the items with it behind them.
pub goes_on : (q out : List ℕ) (m item : ℕ) → m < length q → m < length out → take m q ≡ take m out → get_or q m 0 ≡ item → take (m + 1) q ≡ take (m + 1) (set out m item)
goes_on q out m item h room e is =
    take_more q m 0 h ∙ ap (λ p. p ++ (get_or q m 0 ∷ [])) e ∙ ap (λ y. take m out ++ (y ∷ [])) is ∙ sym (take_more_set out m item room)

pub front_again : (out out' : List ℕ) (m item : ℕ) → take (m + 1) out' ≡ take (m + 1) (set out m item) → take m out' ≡ take m out
front_again out out' m item e =
    sym (take-take m (m + 1) out' (omega arith)) ∙ ap (take m) e ∙ take-take m (m + 1) (set out m item) (omega arith) ∙ take-set out m item

module _ (b : Precedence) (F : List ℕ → Type 0) (m : ℕ) (old : List ℕ) where
  -- Every order fails that begins with the first m items of old and goes on below `item`.
  pub record Upto (out : List ℕ) (item : ℕ) : Type 0 where
    pub fail : (q : List ℕ) → Order b q → take m q ≡ take m old → get_or q m 0 < item → F q
    pub front : take m out ≡ take m old
    pub rest : drop b.count out ≡ drop b.count old

  pub upto_none : Upto old 0
  upto_none = record { fail = λ q o e h. absurd (omega arith); front = refl; rest = refl }

  module _ (out : List ℕ) (item : ℕ) (less : m < b.count) (room : m < length out) (u : Upto out item) where
    goes_on_here : (q : List ℕ) → Order b q → take m q ≡ take m old → get_or q m 0 ≡ item → take (m + 1) q ≡ take (m + 1) (set out m item)
    goes_on_here q o e is = let w = o.permutation.whole in goes_on q out m item (omega arith) room (e ∙ sym u.front) is

    pub upto_tried : (r : Option (List ℕ)) → is_some r ≡ false → Extended b F (m + 1) (set out m item) r → Upto (set out m item) (item + 1)
    upto_tried (Some out') none t = absurd (both_ways true none refl)
    upto_tried None none missing = record {
      fail = λ q o e l. elim (cases_lt (get_or q m 0) item) [
        | inl a ↦ u.fail q o e a
        | inr a ↦ missing q o (goes_on_here q o e (omega arith))
      ];
      front = take-set out m item ∙ u.front;
      rest = drop-set-lt b.count out m item less ∙ u.rest;
    }

    pub upto_barred : (Free b (take m out) item → ⊥) → Upto out (item + 1)
    upto_barred barred = record {
      fail = λ q o e l. elim (cases_lt (get_or q m 0) item) [
        | inl a ↦ u.fail q o e a
        | inr a ↦
            let w = o.permutation.whole in
            let is : get_or q m 0 ≡ item = omega arith in
            let free = order_free b q m o (omega arith) in
            absurd (barred (subst (Free b (take m out)) is (subst (λ p. Free b p (get_or q m 0)) (e ∙ sym u.front) free)))
      ];
      front = u.front;
      rest = u.rest;
    }

    pub found_here : (r : Option (List ℕ)) → is_some r ≡ true → Extended b F (m + 1) (set out m item) r → Extended b F m old r
    found_here None some t = absurd (both_ways false refl some)
    found_here (Some out') some t =
        let n = b.count in
        let front = front_again out out' m item t.front ∙ u.front in
        let here : get_or (take n out') m 0 ≡ item =
        get_or-take n out' m 0 less ∙ sym (get_or-take (m + 1) out' m 0 (omega arith)) ∙ ap (λ p. get_or p m 0) t.front ∙ get_or-take (m + 1) (set out m item) m 0 (omega arith) ∙ get_or-set_same out m item 0 room in
        record {
          passing = t.passing;
          first = λ q p e. elim (cases_order (get_or q m 0) item) [
            | inl a ↦ t.first q p (goes_on_here q p.order e a)
            | inr c ↦ elim c [
              | inl a ↦ absurd (p.passes (u.fail q p.order e a))
              | inr a ↦
                  let w = p.order.permutation.whole in
                  let v = t.passing.order.permutation.whole in
                  lower_first m (take n out') q (take-take m n out' (omega arith) ∙ front ∙ sym e) (omega arith) (omega arith) (omega arith)
            ]
          ];
          front = front;
          rest = t.rest ∙ drop-set-lt n out m item less ∙ u.rest;
        }

  pub all_tried : (out : List ℕ) (item : ℕ) → m < b.count → b.count ≤ item → Upto out item → Extended b F m old None
  all_tried out item less all u = λ q o e. let w = o.permutation.whole in u.fail q o e (omega (arith, o.permutation.below m (omega arith)))

  -- No order that begins with the placed items is wanted.
  pub cut : ((q : List ℕ) → Permutation b.count q → Begins (take m old) q → F q) → Extended b F m old None
  cut fails = λ q o e. fails q o.permutation (begins (take m old) q m e)

  -- All items are placed.
  pub whole : m ≡ b.count → b.count ≤ length old → Lined b (take m old) → (Permutation b.count (take m old) → F (take m old) → ⊥) → Extended b F m old (Some old)
  whole e room l passes =
      let n = b.count in
      let same : take m old ≡ take n old = ap (λ k. take k old) e in
      let l' = subst (Lined b) same l in
      let p = lined_permutation b (take n old) (length-take-le n old room) l' in
      record {
        passing = record {
          order = record { permutation = p; respects = l'.respects };
          passes = subst (λ q. Permutation n q → F q → ⊥) same passes p;
        };
        first = λ q g f.
            let w = g.order.permutation.whole in
            let is : take n old ≡ q = sym same ∙ sym f ∙ take_all m q (omega arith) in
            subst (λ z. NotAfter (take n old) z) is (not_after_itself (take n old));
        front = refl;
        rest = refl;
      }
