-- The orders of the places of the pushing events are the lawful push orders.
use Rattle.std.proofs.Common.{◌≡◌, ℕ, suc, ◌<◌, List, [], ◌∷◌, length, get_or, sym, refl, ap, ◌∙◌, subst, inl, inr, arith}
use Rattle.std.specs.List.{AllByRecursion}
use Rattle.std.proofs.ByRecursion.{All-get_or}
use Rattle.std.proofs.lemmas.List.{get_or-take, length-take-le}
use Rattle.measures.specs.Walks.{Leads}
use Rattle.cycles.specs.Cycles.{NotAfter}
use Rattle.graph.specs.declared.event.Event.{Event}
use Rattle.profiles.specs.Meaning.{Meaning}
use Rattle.axioms.specs.Orders.{Listed}
use Rattle.axioms.specs.PushOrders.{Pushing}
use Rattle.axioms.specs.Relations.{PushOrder, Lawful, SourceStep}
use Rattle.axioms.proofs.Lawfulness.{once_place}
use Rattle.axioms.proofs.SameLength.{same_length}
use Rattle.orders.specs.Orders.{Precedes, Order}
use Rattle.orders.specs.declared.precedence.Precedence.{Precedence}
use Rattle.orders.proofs.Permuting.{each_stands}
use Rattle.searching.specs.Listing.{Leading, picked}
use Rattle.searching.specs.Searching.{LawfulOrder}
use Rattle.searching.proofs.Picking.{length_picked, get_d_picked}

-- The places at which the events of L stand in E.
places : (E L : List ℕ) → ((a : ℕ) → Listed L a → Listed E a) → (q : List ℕ) × (AllByRecursion (λ x. x < length E) q × (picked E q ≡ L))
places E [] has = ([], (tt, refl))
places E (a ∷ L) has =
    let at = has a (record { place = 0; within = omega arith; there = refl }) in
    let rest = places E L (λ e l. has e (record { place = suc l.place; within = omega (arith, l.within); there = l.there })) in
    (at.place ∷ rest.0, ((at.within, rest.1.0), ap (λ z. z ∷ picked E rest.0) at.there ∙ ap (λ z. a ∷ z) rest.1.1))

module _ (m : Meaning) (es : List Event) (E : List ℕ) (pushing : Pushing m es E) (b : Precedence) (leading : Leading es E b) where
  module _ (q : List ℕ) (o : Order b q) where
    below : (i : ℕ) → i < length q → get_or q i 0 < length E
    below i h = omega (arith, o.permutation.below i h, leading.count)

    item : (a i : ℕ) → i < length (picked E q) → get_or (picked E q) i 0 ≡ a → (i < length q) × (get_or E (get_or q i 0) 0 ≡ a)
    item a i h e =
        let k : i < length q = omega (arith, length_picked E q) in
        (k, sym (get_d_picked E q i k) ∙ e)

    listed : (x k : ℕ) → k < length q → get_or q k 0 ≡ x → Listed (picked E q) (get_or E x 0)
    listed x k h e = record { place = k; within = omega (arith, length_picked E q); there = get_d_picked E q k h ∙ ap (λ z. get_or E z 0) e }

    push_order : PushOrder m es (picked E q)
    push_order = record {
      each = λ a l.
          let at = item a l.place l.within l.there in
          pushing.order.each a (record { place = get_or q l.place 0; within = below l.place at.0; there = at.1 });
      all = λ a p.
          let l = pushing.order.all a p in
          let s = each_stands b.count q o.permutation l.place (omega (arith, l.within, leading.count)) in
          subst (Listed (picked E q)) l.there (listed l.place s.place s.within s.there);
      once = λ i j h k e.
          let x = item (get_or (picked E q) j 0) i (omega arith) e in
          let y = item (get_or (picked E q) j 0) j k refl in
          o.permutation.once i j h y.0
          (once_place E pushing.order.once (get_or q i 0) (get_or q j 0) (below i x.0) (below j y.0) (x.1 ∙ sym y.1));
    }

    lawful : Lawful es (picked E q)
    lawful a c in-a in_c apart leads =
        let x = item a in-a.place in-a.within in-a.there in
        let y = item c in_c.place in_c.within in_c.there in
        let before : Precedes b (get_or q in-a.place 0) (get_or q in_c.place 0) = leading.reaches.from (get_or q in-a.place 0) (get_or q in_c.place 0) (record {
          first = below in-a.place x.0;
          second = below in_c.place y.0;
          distinct = λ e. apart (sym x.1 ∙ ap (λ z. get_or E z 0) e ∙ y.1);
          way = subst (λ z. Leads (SourceStep es) z (get_or E (get_or q in_c.place 0) 0)) (sym x.1) (subst (λ z. Leads (SourceStep es) a z) (sym y.1) leads);
        }) in
        let s = o.respects in_c.place y.0 (get_or q in-a.place 0) before in
        let k : s.place < in_c.place = omega (arith, s.within, length-take-le in_c.place q (omega (arith, y.0))) in
        let there : get_or q s.place 0 ≡ get_or q in-a.place 0 = sym (get_or-take in_c.place q s.place 0 k) ∙ s.there in
        let inside : s.place < length q = omega (arith, y.0) in
        record {
          i = s.place;
          j = in_c.place;
          earlier = k;
          within = in_c.within;
          first = get_d_picked E q s.place inside ∙ ap (λ z. get_or E z 0) there ∙ x.1;
          second = in_c.there;
        }

    pub order_lawful : LawfulOrder m es (picked E q)
    order_lawful = record { push_order = push_order; lawful = lawful }

  module _ (L : List ℕ) (l : LawfulOrder m es L) where
    -- Each lawful push order is one of them.
    pub lawful_order : (q : List ℕ) × (Order b q × (picked E q ≡ L))
    lawful_order =
        let found = places E L (λ a h. pushing.order.all a (l.push_order.each a h)) in
        (found.0, (order found.0 found.1.0 found.1.1, found.1.1))
      where
        order : (q : List ℕ) → AllByRecursion (λ x. x < length E) q → picked E q ≡ L → Order b q
        order q small is =
            let long : length q ≡ length L = sym (length_picked E q) ∙ ap length is in
            let whole : length q ≡ b.count = long ∙ same_length m es L E l.push_order pushing.order ∙ sym leading.count in
            let at : (i : ℕ) → i < length q → get_or E (get_or q i 0) 0 ≡ get_or L i 0 = λ i h. sym (get_d_picked E q i h) ∙ ap (λ z. get_or z i 0) is in
            let below : (i : ℕ) → i < length q → get_or q i 0 < length E = λ i h. All-get_or (λ x. x < length E) q i 0 h small in
            let n = leading.count in
            record {
              permutation = record {
                whole = whole;
                below = λ i h. omega (arith, below i h);
                once = λ i j h k e.
                    l.push_order.once i j h (omega arith) (sym (at i (omega arith)) ∙ ap (λ z. get_or E z 0) e ∙ at j k);
              };
              respects = λ j h x p.
                  let r = leading.reaches.to x (get_or q j 0) p in
                  let in-x : Listed L (get_or E x 0) = l.push_order.all (get_or E x 0) (pushing.order.each (get_or E x 0) (record { place = x; within = r.first; there = refl })) in
                  let in-y : Listed L (get_or E (get_or q j 0) 0) = record { place = j; within = omega arith; there = sym (at j h) } in
                  let bf = l.lawful (get_or E x 0) (get_or E (get_or q j 0) 0) in-x in-y
                  (λ e. r.distinct (once_place E pushing.order.once x (get_or q j 0) r.first r.second e)) r.way in
                  let here : bf.j ≡ j = once_place L l.push_order.once bf.j j bf.within (omega arith) (bf.second ∙ at j h) in
                  let k : bf.i < j = omega (arith, bf.earlier) in
                  let inside : bf.i < length q = omega arith in
                  let is_x : get_or q bf.i 0 ≡ x = once_place E pushing.order.once (get_or q bf.i 0) x (below bf.i inside) r.first (at bf.i inside ∙ bf.first) in
                  record {
                    place = bf.i;
                    within = omega (arith, length-take-le j q (omega arith));
                    there = get_or-take j q bf.i 0 k ∙ is_x;
                  };
            }

  -- The events stand by rising number, so the order of the places is that of the events.
  pub places_first : (q r : List ℕ) → AllByRecursion (λ x. x < length E) r → NotAfter q r → NotAfter (picked E q) (picked E r)
  places_first [] r small h = tt
  places_first (x ∷ q) [] small h = h
  places_first (x ∷ q) (y ∷ r) small h =
      elim h [
        | inl less ↦ inl (pushing.increasing x y less small.0)
        | inr same ↦ inr (ap (λ z. get_or E z 0) same.0, places_first q r small.1 same.1)
      ]
