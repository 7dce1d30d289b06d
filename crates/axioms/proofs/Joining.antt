-- A row of a table gains the yes of other cells, cell by cell.
use Rattle.std.proofs.Common.{◌≡◌, ℕ, ◌+◌, ◌-◌, ◌*◌, ◌<◌, ◌≤◌, not, ◌||◌, List, ◌++◌, length, get_or, take, drop, set, sym, ap, ◌∙◌, subst, inl, inr, mul-le-mul_right, add-mul, one-mul, arith, below_more, length-drop}
use lib.Bits.{bit_or, or_zero_l, or_add_and, and_le_l, and_le_r}
use Rattle.std.proofs.lemmas.List.{get_or-set_same, get_or-set_other, get_or-take, get_or-drop, get_or_append_left, get_or-append-add, length-take-le, length-take}
use Rattle.std.proofs.lemmas.Bool.{cases_eq, cases_order, ne_eqb}
use Rattle.measures.specs.Reach.{yes}
use Rattle.axioms.specs.declared.table.EventTable.{EventTable}
use Rattle.axioms.specs.EventTables.{Joined}
use Rattle.axioms.specs.Tables.{CellsJoined}
use borrow.Rule.Slice.PartMut.{put_mid, post_of}
use Rattle.std.proofs.lemmas.Slice.{take-put_mid_below, drop-put_mid}

-- The union of bits is no exactly where both are.
pub yes_or : (a b : ℕ) → yes (bit_or a b) ≡ (yes a || yes b)
yes_or a b =
    elim (cases_eq a 0) [
      | inl e ↦ subst (λ x. yes (bit_or x b) ≡ (yes x || yes b)) (sym e) (ap yes (or_zero_l b))
      | inr some ↦
          let union : bit_or a b ≡ 0 → ⊥ = λ e. some (omega (arith, or_add_and a b, and_le_l a b, and_le_r a b)) in
          ap not (ne_eqb (bit_or a b) 0 union) ∙ sym (ap (λ t. not t || yes b) (ne_eqb a 0 some))
    ]

-- The cells xs became ys: the first b have their gains, and all others are as they were.
pub record JoinedTo (xs gains : List ℕ) (b : ℕ) (ys : List ℕ) : Type 0 where
  pub gained : (k : ℕ) → k < b → yes (get_or ys k 0) ≡ (yes (get_or xs k 0) || yes (get_or gains k 0))
  pub others : (p : ℕ) → b ≤ p → get_or ys p 0 ≡ get_or xs p 0

pub joined_more : (xs gains : List ℕ) (b gain : ℕ) (ys : List ℕ) → gain ≡ get_or gains b 0 → b < length ys → JoinedTo xs gains b ys →
    JoinedTo xs gains (b + 1) (set ys b (bit_or (get_or ys b 0) gain))
joined_more xs gains b gain ys is within so_far =
    let v = bit_or (get_or ys b 0) gain in
    let other : (p : ℕ) → (p ≡ b → ⊥) → get_or (set ys b v) p 0 ≡ get_or ys p 0 = λ p apart. get_or-set_other ys b p v 0 apart in
    record {
      gained = below_more (λ k. yes (get_or (set ys b v) k 0) ≡ (yes (get_or xs k 0) || yes (get_or gains k 0))) b
          (λ k h. ap yes (other k (λ e. omega arith)) ∙ so_far.gained k h)
          (ap yes (get_or-set_same ys b v 0 within) ∙ yes_or (get_or ys b 0) gain
          ∙ ap (λ x. yes x || yes gain) (so_far.others b (omega arith)) ∙ ap (λ x. yes (get_or xs b 0) || yes x) is);
      others = λ p h. other p (λ e. omega arith) ∙ so_far.others p (omega arith);
    }

-- A row of a table ends where the next begins.
row_before : (a b e n : ℕ) → a < e → b < n → a * n + b < e * n
row_before a b e n h q =
    let next : a + 1 ≤ e = omega arith in omega (arith, mul-le-mul_right n next, add-mul a 1 n, one-mul n)

row_behind : (a b e n : ℕ) → e < a → e * n + n ≤ a * n + b
row_behind a b e n h =
    let next : e + 1 ≤ a = omega arith in omega (arith, mul-le-mul_right n next, add-mul e 1 n, one-mul n)

-- The cells ys were written over k of xs, from the place a on.
module _ (a k : ℕ) (xs ys : List ℕ) (fits : a + k ≤ length xs) (long : length ys ≡ k) where
  over_below : (p : ℕ) → p < a → get_or (put_mid a k xs ys) p 0 ≡ get_or xs p 0
  over_below p h =
      sym (get_or-take a (put_mid a k xs ys) p 0 h) ∙ ap (λ l. get_or l p 0) (take-put_mid_below a k xs ys a (omega arith) (omega arith)) ∙ get_or-take a xs p 0 h

  over_inside : (c : ℕ) → c < k → get_or (put_mid a k xs ys) (a + c) 0 ≡ get_or ys c 0
  over_inside c h =
      let front : length (take a xs) ≡ a = length-take-le a xs (omega arith) in
      subst (λ f. get_or (put_mid a k xs ys) (f + c) 0 ≡ get_or ys c 0) front
      (get_or-append-add (take a xs) (ys ++ post_of a k xs) c 0 ∙ get_or_append_left ys (post_of a k xs) 0 c (omega arith))

  over_behind : (p : ℕ) → a + k ≤ p → get_or (put_mid a k xs ys) p 0 ≡ get_or xs p 0
  over_behind p h =
      let place : a + k + (p - (a + k)) ≡ p = omega arith in
      subst (λ q. get_or (put_mid a k xs ys) q 0 ≡ get_or xs q 0) place
      (sym (get_or-drop (a + k) (put_mid a k xs ys) (p - (a + k)) 0)
      ∙ ap (λ l. get_or l (p - (a + k)) 0) (drop-put_mid a k xs ys (a + k) (omega arith) (omega arith) long)
      ∙ get_or-drop (a + k) xs (p - (a + k)) 0)

-- A row lies in its table.
pub row_within : (e n : ℕ) → e < n → e * n + n ≤ n * n
row_within e n h = let next : e + 1 ≤ n = omega arith in omega (arith, mul-le-mul_right n next, add-mul e 1 n, one-mul n)

pub joined_row : (t u : EventTable) (a k : ℕ) (gains ys : List ℕ) → u.side ≡ t.side → k ≡ t.side → a * t.side + k ≤ length t.cells →
    u.cells ≡ put_mid (a * t.side) k t.cells ys → length ys ≡ k → CellsJoined gains (take k (drop (a * t.side) t.cells)) ys → Joined t u a gains
joined_row t u a k gains ys side all fits is long joined = record {
  side = side;
  row = λ b p q.
      let inside : b < k = omega arith in
      let cut : get_or (take k (drop (a * t.side) t.cells)) b 0 ≡ get_or t.cells (a * t.side + b) 0 =
      get_or-take k (drop (a * t.side) t.cells) b 0 inside ∙ get_or-drop (a * t.side) t.cells b 0 in
      ap yes (ap (λ l. get_or l (a * t.side + b) 0) is ∙ over_inside (a * t.side) k t.cells ys fits long b inside)
      ∙ joined b (simp (length-take, length-drop) (omega arith)) ∙ ap (λ x. yes x || yes (get_or gains b 0)) cut;
  elsewhere = λ c d p q apart.
      ap (λ l. get_or l (c * t.side + d) 0) is
      ∙ elim (cases_order c a) [
        | inl same ↦ absurd (apart same)
        | inr way ↦ elim way [
          | inl low ↦ over_below (a * t.side) k t.cells ys fits long (c * t.side + d) (row_before c d a t.side low q)
          | inr high ↦ over_behind (a * t.side) k t.cells ys fits long (c * t.side + d) (omega (arith, row_behind c d a t.side high))
        ]
      ];
}
