-- How long a push order can be: two of one graph have the same length, and none is longer than the added events are many.
use Rattle.std.proofs.Common.{◌≡◌, ℕ, suc, ◌+◌, ◌-◌, ◌<◌, ◌≤◌, List, [], ◌∷◌, length, get_or, sym, refl, ap, ◌∙◌, inl, inr, arith}
use Rattle.std.specs.List.{remove, range_with_len}
use Rattle.std.proofs.lemmas.List.FromFn.{length-range_with_len, get_or-range_with_len}
use Rattle.std.proofs.lemmas.List.Edits.{length-remove, get_or-remove_below, get_or-remove_above}
use Rattle.std.proofs.lemmas.Bool.{cases_order}
use Rattle.graph.specs.declared.event.Event.{Event}
use Rattle.profiles.specs.Laws as laws
use Rattle.profiles.specs.Meaning.{Meaning}
use Rattle.axioms.specs.Orders.{Listed, Once}
use Rattle.axioms.specs.Relations.{PushOrder}

-- What stands in a list stands there still without the event at another place.
still_listed : (ys : List ℕ) (p a : ℕ) → p < length ys → (get_or ys p 0 ≡ a → ⊥) → Listed ys a → Listed (remove ys p) a
still_listed ys p a in_p other l =
    let long = length-remove ys p in_p in
    elim (cases_order l.place p) [
      | inl same ↦ absurd (other (ap (λ k. get_or ys k 0) (sym same) ∙ l.there))
      | inr apart ↦ elim apart [
        | inl below ↦ record {
          place = l.place;
          within = omega (arith, long, l.within);
          there = get_or-remove_below ys p 0 l.place below in_p ∙ l.there;
        }
        | inr above ↦
            let back : (l.place - 1) + 1 ≡ l.place = omega arith in
            record {
              place = l.place - 1;
              within = omega (arith, long, l.within);
              there = get_or-remove_above ys p 0 (l.place - 1) (omega arith) in_p ∙ ap (λ k. get_or ys k 0) back ∙ l.there;
            }
      ]
    ]

-- A list in which no event stands twice is no longer than one that has all its events.
no_longer : (xs ys : List ℕ) → Once xs → ((a : ℕ) → Listed xs a → Listed ys a) → length xs ≤ length ys
no_longer [] ys once has = omega arith
no_longer (x ∷ xs) ys once has =
    let at = has x (record { place = 0; within = omega arith; there = refl }) in
    let rest = no_longer xs (remove ys at.place) (λ i j h p. once (suc i) (suc j) (omega arith) (omega arith))
    (λ a l.
    let next : suc l.place < suc (length xs) = omega (arith, l.within) in
    still_listed ys at.place a at.within
    (λ e. once 0 (suc l.place) (omega arith) next (sym at.there ∙ e ∙ sym l.there))
    (has a (record { place = suc l.place; within = next; there = l.there }))) in
    omega (arith, rest, length-remove ys at.place at.within)

pub same_length : (m : Meaning) (es : List Event) (L M : List ℕ) → PushOrder m es L → PushOrder m es M → length L ≡ length M
same_length m es L M p q =
    let l = no_longer L M p.once (λ a h. q.all a (p.each a h)) in
    let r = no_longer M L q.once (λ a h. p.all a (q.each a h)) in
    omega arith

pub no_longer_than_added : (m : Meaning) (es : List Event) (L : List ℕ) → laws.Lawful m → PushOrder m es L → length L ≤ length es
no_longer_than_added m es L law p =
    let numbers = range_with_len 8 (length es) in
    let has : (a : ℕ) → Listed L a → Listed numbers a = λ a l.
    let pair = p.each a l in
    let added = law.from_added es a pair.0 pair.1 in
    let below : a - 8 < length es = omega arith in
    let there : 8 + (a - 8) ≡ a = omega arith in
    record {
      place = a - 8;
      within = omega (arith, length-range_with_len 8 (length es));
      there = get_or-range_with_len 8 (length es) (a - 8) 0 below ∙ there;
    } in
    omega (arith, no_longer L numbers p.once has, length-range_with_len 8 (length es))
