-- What the two searches for an order come to.
use Rattle.std.proofs.Common.{◌≡◌, ℕ, ◌-◌, ◌<◌, ◌≤◌, List, ◌++◌, length, get_or, take, drop, Ok, Err, Result, sym, refl, ap, ◌∙◌, subst, arith}
use Rattle.std.proofs.ByRecursion.{All-from_get_or}
use Rattle.std.proofs.lemmas.List.{get_or-take, take_at}
use Rattle.cycles.specs.Cycles.{NotAfter}
use Rattle.graph.specs.declared.event.Event.{Event}
use Rattle.graph.specs.declared.refusal.Refusal.{Refusal}
use Rattle.graph.specs.declared.refusal.Refused.{Refused}
use Rattle.graph.specs.Refusals.{plain}
use Rattle.profiles.specs.Meaning.{Meaning}
use Rattle.axioms.specs.PushOrders.{Pushing, CountPushing, Front}
use Rattle.axioms.specs.Relations.{SourceCycle, CoherenceCycle}
use Rattle.axioms.proofs.SameLength.{same_length}
use Rattle.orders.specs.Orders.{Order, First, FirstInFront}
use Rattle.orders.specs.declared.precedence.Precedence.{Precedence}
use Rattle.searching.specs.Listing.{Leading, picked}
use Rattle.searching.specs.Searching.{Few, LawfulOrder, FirstGood, Searches, many, source, unlawful, found, none}
use Rattle.searching.specs.declared.answer.Answer.{Answer}
use Rattle.searching.proofs.Ordering.{order_lawful, lawful_order, places_first}
use Rattle.searching.proofs.Picking.{length_picked}
use Rattle.searching.proofs.Unique.{unique}

module _ (m : Meaning) (es : List Event) (E : List ℕ) (pushing : Pushing m es E) (b : Precedence) (leading : Leading es E b) where
  pub none_lawful : ((q : List ℕ) → Order b q → ⊥) → (L : List ℕ) → LawfulOrder m es L → ⊥
  none_lawful no_order L l = let f = lawful_order m es E pushing b leading L l in no_order f.0 f.1.0

  pub none_good : ((q : List ℕ) → Order b q → CoherenceCycle m es (picked E q)) → (L : List ℕ) → LawfulOrder m es L → CoherenceCycle m es L
  none_good all L l =
      let f = lawful_order m es E pushing b leading L l in
      subst (CoherenceCycle m es) f.1.1 (all f.0 f.1.0)

  pub first_good : (q : List ℕ) → First b (λ r. CoherenceCycle m es (picked E r)) q → FirstGood m es (picked E q)
  first_good q best =
      let l = order_lawful m es E pushing b leading q best.passing.order in
      record {
        good = record { push_order = l.push_order; lawful = l.lawful; clear = best.passing.passes };
        first = λ M g.
            let f = lawful_order m es E pushing b leading M (record { push_order = g.push_order; lawful = g.lawful }) in
            let n = leading.count in
            let small = All-from_get_or (λ x. x < length E) f.0 0 (λ i h. omega (arith, f.1.0.permutation.below i h)) in
            let after = best.first f.0 (record { order = f.1.0; passes = λ c. g.clear (subst (CoherenceCycle m es) f.1.1 c) }) in
            subst (NotAfter (picked E q)) f.1.1 (places_first m es E pushing b leading q f.0 small after);
      }

-- What `search` says of its answer.
pub record Told (m : Meaning) (es : List Event) (old new : List ℕ) (r : Result Answer Refused) : Type 0 where
  pub answered : Searches m es old new r
  pub only : (other : List ℕ) (s : Result Answer Refused) → Searches m es old other s → (s ≡ r) × (other ≡ new)

tell : (m : Meaning) (es all : List Event) → es ≡ all → (old new : List ℕ) (r : Result Answer Refused) → Searches m es old new r → Told m all old new r
tell m es all value old new r s =
    subst (λ z. Told m z old new r) value (record { answered = s; only = λ other t. unique m es old new other r t s })

-- The events that were written to the front of a list.
pub listed_front : (m : Meaning) (es : List Event) (before list : List ℕ) (k : ℕ) → Front (Pushing m es) before list k → Pushing m es (take (k - 0) list)
listed_front m es before list k f =
    let whole : k - 0 ≡ k = omega arith in
    let is : take (k - 0) list ≡ f.written = ap (λ n. take n list) whole ∙ ap (take k) f.front ∙ take_at f.written (drop k before) k f.count in
    subst (Pushing m es) (sym is) f.holds

module _ (m : Meaning) (es all : List Event) (value : es ≡ all) (old : List ℕ) (room : 56 ≤ length old) (E : List ℕ) (pushing : Pushing m es E) where
  counted : CountPushing m es (length E)
  counted = record {
    events = E;
    pushing = pushing;
    count = refl;
    every = λ L p. same_length m es L E p pushing.order;
  }

  pub tell_many : (r : Result Answer Refused) → 8 < length E → r ≡ Err (plain Refusal.TooManyPush) → Told m all old old r
  tell_many r h e = tell m es all value old old r (many room (length E, (counted, h)) e refl)

  module _ (b : Precedence) (leading : Leading es E b) where
    few : Few m es
    few = (length E, (counted, omega (arith, leading.count, b.small)))

    pub tell_source : SourceCycle es → Told m all old old (Ok Answer.SourceCycle)
    tell_source s = tell m es all value old old (Ok Answer.SourceCycle) (source room few s refl refl)

    module _ (sourced : SourceCycle es → ⊥) where
      pub tell_unlawful : (r : Result Answer Refused) → ((q : List ℕ) → Order b q → ⊥) → r ≡ Err (plain Refusal.NoLawfulOrder) → Told m all old old r
      tell_unlawful r h e = tell m es all value old old r (unlawful room few sourced (none_lawful m es E pushing b leading h) e refl)

      pub tell_none : (q : List ℕ) → Order b q → ((p : List ℕ) → Order b p → CoherenceCycle m es (picked E p)) → Told m all old old (Ok Answer.NoneGood)
      tell_none q o fail =
          tell m es all value old old (Ok Answer.NoneGood)
          (none room few sourced (picked E q) (order_lawful m es E pushing b leading q o) (none_good m es E pushing b leading fail) refl refl)

      pub tell_found : (out new : List ℕ) (k : ℕ) → FirstInFront b (λ q. CoherenceCycle m es (picked E q)) out → k ≡ length E →
          new ≡ picked E (take (length E) out) ++ drop (length E) old → Told m all old new (Ok (Answer.Found k))
      tell_found out new k best count is =
          let q = take b.count out in
          let n = leading.count in
          let long : length (picked E q) ≡ length E = length_picked E q ∙ best.front.passing.order.permutation.whole ∙ n in
          let same : picked E (take (length E) out) ≡ picked E q = ap (λ i. picked E (take i out)) (sym n) in
          tell m es all value old new (Ok (Answer.Found k))
          (found room few sourced (picked E q) (first_good m es E pushing b leading q best.front)
          (ap (λ i. Ok (Answer.Found i)) (count ∙ sym long))
          (is ∙ ap (λ p. p ++ drop (length E) old) same ∙ ap (λ i. picked E q ++ drop i old) (sym long)))

-- The items of a found order are places in the list.
pub item_below : (b : Precedence) (F : List ℕ → Type 0) (E out : List ℕ) → b.count ≡ length E → FirstInFront b F out → (i : ℕ) → i < length E → get_or out i 0 < length E
item_below b F E out count best i h =
    let p = best.front.passing.order.permutation in
    let k : i < b.count = omega arith in
    let small : get_or (take b.count out) i 0 < b.count = p.below i (omega (arith, p.whole)) in
    omega (arith, get_or-take b.count out i 0 k)
