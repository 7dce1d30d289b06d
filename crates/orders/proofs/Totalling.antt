-- The orders behind the placed items, counted item by item.
use Rattle.std.proofs.Common.{◌≡◌, ℕ, zero, suc, ◌+◌, ◌-◌, ◌*◌, ◌<◌, ◌≤◌, List, [], ◌∷◌, ◌++◌, length, get_or, take, set, sym, refl, ap, ◌∙◌, subst, inl, inr, suc-mul, mul-le-mul, arith, length-append}
use Rattle.std.specs.List.{AllByRecursion}
use Rattle.std.proofs.ByRecursion.{All-append, All-weaker, All-from_get_or}
use Rattle.std.proofs.lemmas.List.{get_or-take, get_or-set_same, length-take-le, take-set, take_all}
use Rattle.std.proofs.lemmas.Bool.{cases_lt}
use Rattle.cycles.specs.Cycles.{Distinct}
use Rattle.cycles.proofs.Walking.{few}
use Rattle.orders.specs.Counting.{Counted, CountedBehind, factorial}
use Rattle.orders.specs.Extending.{Lined}
use Rattle.orders.specs.Orders.{Among, Free, Order}
use Rattle.orders.specs.declared.precedence.Precedence.{Precedence}
use Rattle.orders.proofs.Enumerating.{counted_none, counted_one, counted_like, counted_both}
use Rattle.orders.proofs.Permuting.{distinct}
use Rattle.orders.proofs.Placing.{goes_on, front_again, order_free, lined_permutation}

factorial_rises : (m n : ℕ) → m ≤ n → factorial m ≤ factorial n
factorial_rises m zero h = let e : m ≡ 0 = omega arith in subst (λ k. factorial k ≤ 1) (sym e) (omega arith)
factorial_rises m (suc n) h =
    elim (cases_lt n m) [
      | inl l ↦ let e : m ≡ suc n = omega arith in subst (λ k. factorial k ≤ factorial (suc n)) (sym e) (omega arith)
      | inr l ↦
          let before = factorial_rises m n l in
          let more : 1 * factorial n ≤ suc n * factorial n = mul-le-mul (omega arith) (omega arith) in
          omega arith
    ]

pub at_most_8 : (n : ℕ) → n ≤ 8 → factorial n ≤ 40320
at_most_8 n h = factorial_rises n 8 h

module _ (b : Precedence) (m : ℕ) (old : List ℕ) where
  -- The orders that go on below `item` are counted. `tried` are the free ones among those items.
  pub record TotalTo (out : List ℕ) (item total : ℕ) : Type 0 where
    pub counted : Counted (λ q. (Order b q × (take m q ≡ take m old)) × (get_or q m 0 < item)) total
    pub front : take m out ≡ take m old
    pub tried : List ℕ
    pub apart : Distinct (tried ++ take m old)
    pub small : AllByRecursion (λ x. x < item) tried
    pub bound : total ≤ length tried * factorial (b.count - (m + 1))

module _ (b : Precedence) (m : ℕ) (old : List ℕ) (less : m < b.count) (l : Lined b (take m old)) (long : b.count ≤ length old) where
  pub total_none : TotalTo b m old old 0 0
  total_none = record {
    counted = counted_none (λ q h. omega (arith, h.1));
    front = refl;
    tried = [];
    apart = distinct (take m old) l.once;
    small = tt;
    bound = omega arith;
  }

  -- The tried items and the placed ones are distinct items, so they are not too many.
  room_for : (tried : List ℕ) → Distinct (tried ++ take m old) → AllByRecursion (λ x. x < b.count) tried → length tried + m ≤ b.count
  room_for tried apart small =
      let many = few b.count (tried ++ take m old) apart
      (All-append (λ x. x < b.count) tried (take m old) small (All-from_get_or (λ x. x < b.count) (take m old) 0 l.below)) in
      omega (arith, many, length-append tried (take m old), length-take-le m old (omega arith))

  at_most : (tried : List ℕ) (total : ℕ) → length tried + m ≤ b.count → total ≤ length tried * factorial (b.count - (m + 1)) → total ≤ factorial (b.count - m)
  at_most tried total fits bound =
      let one : b.count - m ≡ suc (b.count - (m + 1)) = omega arith in
      let wide : length tried * factorial (b.count - (m + 1)) ≤ suc (b.count - (m + 1)) * factorial (b.count - (m + 1)) = mul-le-mul (omega arith) (omega arith) in
      subst (λ k. total ≤ factorial k) (sym one) (omega arith)

  module _ (out : List ℕ) (item total : ℕ) (below : item < b.count) (so_far : TotalTo b m old out item total) where
    module _ (free : Free b (take m out) item) where
      apart_more : Distinct ((item ∷ so_far.tried) ++ take m old)
      apart_more = (
        All-append (λ w. item ≡ w → ⊥) so_far.tried (take m old)
            (All-weaker (λ x. x < item) (λ w. item ≡ w → ⊥) (λ x h e. omega arith) so_far.tried so_far.small)
            (All-from_get_or (λ w. item ≡ w → ⊥) (take m old) 0
            (λ i h e. free.new (subst (λ p. Among p item) (sym so_far.front) (record { place = i; within = h; there = sym e })))),
        so_far.apart,
      )

      small_more : AllByRecursion (λ x. x < item + 1) (item ∷ so_far.tried)
      small_more = (omega arith, All-weaker (λ x. x < item) (λ x. x < item + 1) (λ x h. omega arith) so_far.tried so_far.small)

      module _ (r : ℕ) (few-here : r ≤ factorial (b.count - (m + 1))) where
        bound_more : total + r ≤ length (item ∷ so_far.tried) * factorial (b.count - (m + 1))
        bound_more =
            let F = factorial (b.count - (m + 1)) in
            let sum : suc (length so_far.tried) * F ≡ length so_far.tried * F + F = suc-mul (length so_far.tried) F in
            omega (arith, so_far.bound)

        -- The sum does not wrap.
        pub sum_fits : total + r ≤ 40320
        sum_fits =
            let fits = room_for (item ∷ so_far.tried) apart_more (All-weaker (λ x. x < item + 1) (λ x. x < b.count) (λ x h. omega arith) (item ∷ so_far.tried) small_more) in
            let most = at_most (item ∷ so_far.tried) (total + r) fits bound_more in
            omega (arith, most, at_most_8 (b.count - m) (omega (arith, b.small)))

      pub total_tried : (r : ℕ) → m < length out → CountedBehind b (m + 1) (set out m item) r → TotalTo b m old (set out m item) (item + 1) (total + r)
      total_tried r room t =
          let here : (q : List ℕ) → take (m + 1) q ≡ take (m + 1) (set out m item) → get_or q m 0 ≡ item = λ q e.
          sym (get_or-take (m + 1) q m 0 (omega arith)) ∙ ap (λ p. get_or p m 0) e ∙ get_or-take (m + 1) (set out m item) m 0 (omega arith) ∙ get_or-set_same out m item 0 room in
          record {
            counted = counted_like (total + r)
                (λ q h. elim h [
                  | inl p ↦ (p.0, omega (arith, p.1))
                  | inr p ↦ ((p.0, front_again out q m item p.1 ∙ so_far.front), omega (arith, here q p.1))
                ])
                (λ q h. elim (cases_lt (get_or q m 0) item) [
                  | inl a ↦ inl (h.0, a)
                  | inr a ↦
                      let w = h.0.0.permutation.whole in
                      let is : get_or q m 0 ≡ item = omega (arith, h.1) in
                      inr (h.0.0, goes_on q out m item (omega arith) room (h.0.1 ∙ sym so_far.front) is)
                ])
                (counted_both total r so_far.counted t.counted (λ q p s. omega (arith, p.1, here q s.1)));
            front = take-set out m item ∙ so_far.front;
            tried = item ∷ so_far.tried;
            apart = apart_more;
            small = small_more;
            bound = bound_more r t.few;
          }

    pub total_barred : (Free b (take m out) item → ⊥) → TotalTo b m old out (item + 1) total
    total_barred barred = record {
      counted = counted_like total
          (λ q h. (h.0, omega (arith, h.1)))
          (λ q h. (
            h.0,
            elim (cases_lt (get_or q m 0) item) [
              | inl a ↦ a
              | inr a ↦
                  let w = h.0.0.permutation.whole in
                  let is : get_or q m 0 ≡ item = omega (arith, h.1) in
                  let free = order_free b q m h.0.0 (omega arith) in
                  absurd (barred (subst (Free b (take m out)) is (subst (λ p. Free b p (get_or q m 0)) (h.0.1 ∙ sym so_far.front) free)))
            ],
          ))
          so_far.counted;
      front = so_far.front;
      tried = so_far.tried;
      apart = so_far.apart;
      small = All-weaker (λ x. x < item) (λ x. x < item + 1) (λ x h. omega arith) so_far.tried so_far.small;
      bound = so_far.bound;
    }

  pub total_all : (out : List ℕ) (item total : ℕ) → item ≡ b.count → TotalTo b m old out item total → CountedBehind b m old total
  total_all out item total all t =
      let small = All-weaker (λ x. x < item) (λ x. x < b.count) (λ x h. omega arith) t.tried t.small in
      record {
        counted = counted_like total (λ q h. h.0)
            (λ q h. let w = h.0.permutation.whole in (h, omega (arith, h.0.permutation.below m (omega arith))))
            t.counted;
        few = at_most t.tried total (room_for t.tried t.apart small) t.bound;
      }

-- All items are placed.
pub counted_whole : (b : Precedence) (m : ℕ) (old : List ℕ) → m ≡ b.count → b.count ≤ length old → Lined b (take m old) → CountedBehind b m old 1
counted_whole b m old e long l =
    let size : length (take m old) ≡ b.count = length-take-le m old (omega arith) ∙ e in
    record {
      counted = counted_one (take m old)
          (record { permutation = lined_permutation b (take m old) size l; respects = l.respects }, take_all m (take m old) (omega arith))
          (λ q h. let w = h.0.permutation.whole in sym h.1 ∙ take_all m q (omega arith));
      few = let none : b.count - m ≡ 0 = omega arith in subst (λ k. 1 ≤ factorial k) (sym none) (omega arith);
    }
