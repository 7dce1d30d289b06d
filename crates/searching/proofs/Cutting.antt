-- Why a front is hopeless: every order that begins so has the push steps by which there is a cycle already.
use Rattle.std.proofs.Common.{◌≡◌, ℕ, suc, ◌+◌, ◌-◌, ◌<◌, ◌≤◌, Bool, true, false, List, [], ◌∷◌, ◌++◌, length, get_or, take, replicate, Decides, sym, refl, ap, ◌∙◌, subst, inl, inr, arith, length-append}
use Rattle.std.proofs.lemmas.List.{append_assoc, append-nil, get_or_append_left, get_or_push, length_push, take_at}
use Rattle.std.proofs.lemmas.Bool.{cases_lt, both_ways}
use Rattle.graph.specs.declared.event.Event.{Event}
use Rattle.axioms.specs.Orders.{Before}
use Rattle.axioms.specs.Relations.{PushStep}
use Rattle.axioms.specs.Tables.{Drawn}
use Rattle.orders.specs.Orders.{Permutation, Begins, Among}
use Rattle.orders.proofs.Permuting.{each_stands}
use Rattle.searching.specs.Listing.{picked}
use Rattle.searching.specs.Sieves.{Cyclic, CyclicSoFar, Fails, Merging, tabled}
use Rattle.searching.proofs.Monotone.{more_cycles}
use Rattle.searching.proofs.Picking.{length_picked, picked_append, get_d_picked}
use Rattle.searching.proofs.Tabled.{tells_yes, yes_tells}

module _ (es : List Event) (kept xs ys E placed q rest : List ℕ) (p : Permutation (length E) q) (begins : q ≡ placed ++ rest)
    (drawn : Drawn (Merging (length es + 8) xs E placed) (length es + 8) ys)
  where
    -- The order has the placed events at its front.
    front : (i : ℕ) → i < length placed → get_or (picked E q) i 0 ≡ get_or (picked E placed ++ (0 ∷ [])) i 0
    front i h =
        let long = length_picked E placed in
        let k : i < length (picked E placed) = omega arith in
        ap (λ r. get_or (picked E r) i 0) begins
        ∙ ap (λ r. get_or r i 0) (picked_append E placed rest)
        ∙ get_or_append_left (picked E placed) (picked E rest) 0 i k
        ∙ sym (get_or_append_left (picked E placed) (0 ∷ []) 0 i k)

    longer : length placed ≤ length q
    longer = omega (arith, ap length begins, length-append placed rest)

    still_before : (a b i j : ℕ) → i < j → j < length placed → get_or (picked E placed ++ (0 ∷ [])) i 0 ≡ a → get_or (picked E placed ++ (0 ∷ [])) j 0 ≡ b → Before (picked E q) a b
    still_before a b i j h k first second = record {
      i = i;
      j = j;
      earlier = h;
      within = omega (arith, length_picked E q, longer);
      first = front i (omega arith) ∙ first;
      second = front j k ∙ second;
    }

    before_open : (a i : ℕ) → i < length placed → get_or (picked E placed ++ (0 ∷ [])) i 0 ≡ a → (item : ℕ) → item < length E → (Among placed item → ⊥) → Before (picked E q) a (get_or E item 0)
    before_open a i h first item within is_open =
        let s = each_stands (length E) q p item within in
        let later : length placed ≤ s.place = elim (cases_lt s.place (length placed)) [
          | inl k ↦
              let same : get_or q s.place 0 ≡ get_or placed s.place 0 = ap (λ r. get_or r s.place 0) begins ∙ get_or_append_left placed rest 0 s.place k in
              absurd (is_open (record { place = s.place; within = k; there = sym same ∙ s.there }))
          | inr k ↦ k
        ] in
        record {
          i = i;
          j = s.place;
          earlier = omega arith;
          within = omega (arith, length_picked E q, s.within);
          first = front i h ∙ first;
          second = get_d_picked E q s.place s.within ∙ ap (λ x. get_or E x 0) s.there;
        }

    still_pushed : (a c : ℕ) → PushStep (tabled (length es + 8) kept ys) es (picked E placed ++ (0 ∷ [])) a c → PushStep (tabled (length es + 8) kept xs) es (picked E q) a c
    still_pushed a c s =
        let n = length es + 8 in
        let b = s.earlier in
        let y = tells_yes n ys s.by c s.pushed in
        let long : length (picked E placed ++ (0 ∷ [])) ≡ length placed + 1 = length_push (picked E placed) 0 ∙ ap (λ k. k + 1) (length_picked E placed) in
        elim ((drawn s.by c y.row y.column).0 y.is_yes) [
          | inl own ↦
              let some = own.0 in
              let k : b.j < length placed = elim (cases_lt b.j (length placed)) [
                | inl k ↦ k
                | inr k ↦
                    let last : get_or (picked E placed ++ (0 ∷ [])) b.j 0 ≡ 0 = get_or_push (picked E placed) 0 0 b.j (omega (arith, length_picked E placed, b.within)) in
                    absurd (omega (arith, b.second))
              ] in
              record {
                by = s.by;
                earlier = still_before a s.by b.i b.j b.earlier k b.first b.second;
                pushed = yes_tells n xs s.by c (record { row = y.row; column = y.column; is_yes = own.1 });
              }
          | inr any ↦
              let o = any.1 in
              let h : b.i < length placed = omega (arith, b.earlier, b.within) in
              record {
                by = get_or E o.item 0;
                earlier = before_open a b.i h b.first o.item o.within o.open_item;
                pushed = yes_tells n xs (get_or E o.item 0) c o.pushes;
              }
        ]

pub hopeless : (es : List Event) (kept pushed E placed q : List ℕ) → length E ≤ 8 → Permutation (length E) q → Begins placed q →
    CyclicSoFar es kept pushed E placed (picked E placed ++ (0 ∷ [])) → Fails es kept pushed E q
hopeless es kept pushed E placed q few p begins c =
    let n = length es + 8 in
    record {
      whole = p.whole;
      few = omega (arith, p.whole);
      cyclic = record {
        kept_fits = c.cyclic.kept_fits;
        pushed_fits = c.pushed_fits;
        cycle = more_cycles es (tabled n kept c.merged) (picked E placed ++ (0 ∷ [])) (tabled n kept pushed) (picked E q)
            (λ a b k. k)
            (still_pushed es kept pushed c.merged E placed q begins.0 p begins.1 c.drawn)
            c.cyclic.cycle;
      };
    }

-- What `rejects` says.
pub record Rejecting (count : ℕ) (placed : List ℕ) (F : List ℕ → Type 0) (r : Bool) : Type 0 where
  pub cut : r ≡ true → (q : List ℕ) → Permutation count q → Begins placed q → F q
  pub whole : r ≡ false → Permutation count placed → F placed → ⊥

module _ (es : List Event) (kept pushed E placed list : List ℕ) (count : ℕ) (r : Bool)
    (few : count ≤ 8) (items : length E ≡ count) (is : list ≡ picked E placed ++ replicate (9 - length placed) 0)
  where
    -- All items are placed.
    pub whole_rejecting : length placed ≡ count → Decides r (Cyclic es kept pushed (take (length placed) list)) → Rejecting count placed (Fails es kept pushed E) r
    whole_rejecting all d =
        let events : take (length placed) list ≡ picked E placed = ap (take (length placed)) is ∙ take_at (picked E placed) (replicate (9 - length placed) 0) (length placed) (length_picked E placed) in
        let d' = subst (λ L. Decides r (Cyclic es kept pushed L)) events d in
        record {
          cut = λ t q p b.
              let none : b.0 ≡ [] = no_more b.0 (omega (arith, ap length b.1, length-append placed b.0, p.whole)) in
              let same : q ≡ placed = b.1 ∙ ap (λ s. placed ++ s) none ∙ append-nil placed in
              record { whole = p.whole ∙ sym items; few = omega (arith, p.whole); cyclic = subst (λ s. Cyclic es kept pushed (picked E s)) (sym same) (d'.0 t) };
          whole = λ f p fails. both_ways r f (d'.1 fails.cyclic);
        }
      where
        no_more : (s : List ℕ) → length s ≡ 0 → s ≡ []
        no_more [] e = refl
        no_more (x ∷ s) e = absurd (omega arith)

    -- Some items are open.
    pub open_rejecting : length placed < count → Decides r (CyclicSoFar es kept pushed E placed (take (length placed + 1) list)) → Rejecting count placed (Fails es kept pushed E) r
    open_rejecting some d =
        let zeros : List ℕ = replicate (9 - (length placed + 1)) 0 in
        let one : 9 - length placed ≡ suc (9 - (length placed + 1)) = omega arith in
        let split : list ≡ (picked E placed ++ (0 ∷ [])) ++ zeros = is ∙ ap (λ k. picked E placed ++ replicate k 0) one ∙ sym (append_assoc (picked E placed) (0 ∷ []) zeros) in
        let long : length (picked E placed ++ (0 ∷ [])) ≡ length placed + 1 = length_push (picked E placed) 0 ∙ ap (λ k. k + 1) (length_picked E placed) in
        let events : take (length placed + 1) list ≡ picked E placed ++ (0 ∷ []) = ap (take (length placed + 1)) split ∙ take_at (picked E placed ++ (0 ∷ [])) zeros (length placed + 1) long in
        record {
          cut = λ t q p b.
              hopeless es kept pushed E placed q (omega arith) (subst (λ n. Permutation n q) (sym items) p) b
              (subst (λ L. CyclicSoFar es kept pushed E placed L) events (d.0 t));
          whole = λ f p fails. omega (arith, p.whole);
        }
