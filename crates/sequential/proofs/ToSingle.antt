-- From a good push order to a single order.
--
-- The push order gives each event an interval of time: an event closes at its place in the list, and opens when the last
-- event before it in program order closes. What closes before another event opens is visible to it. So where an event
-- closes before one of another block of its location opens, coherence leads from the one's write to the other's. As
-- coherence has no cycle, there is an order with every event in its interval and every block whole, and it is single.
use Rattle.std.proofs.Common.{◌≡◌, ℕ, ◌+◌, ◌<◌, ◌≤◌, Bool, true, cond, not, ◌&&◌, eqb, ltb, leb, List, length, get_or, Decides, sym, refl, ap, ◌∙◌, subst, subst₂, inl, inr, ⊎_elim, arith}
use Rattle.std.proofs.lemmas.Bool.{cases_eq, cases_lt, cond-true, cond-false, lt-ltb, le-ltb}
use Rattle.std.proofs.lemmas.Bool.Decides.{Decides-and, Decides-not, Decides-eqb}
use Rattle.measures.specs.Walks.{Leads, last, more}
use Rattle.cycles.proofs.Carrying.{leads_carries}
use Rattle.graph.specs.declared.event.Event.{Event}
use Rattle.graph.specs.Codes.{is_write}
use Rattle.graph.specs.Events.{event, Present}
use Rattle.graph.specs.Order.{Po, po, Rf}
use Rattle.graph.specs.Proper.{Proper}
use Rattle.graph.proofs.Deciding.{po_decides, leb_decides}
use Rattle.profiles.specs.Meaning.{Meaning}
use Rattle.axioms.specs.declared.rule.Rule.TheVariants.{Coww, Cowr}
use Rattle.axioms.specs.Orders.{Listed, Before}
use Rattle.axioms.specs.Relations.{Pushes, SourceStep, SourceCycle, Vvo, Rivals, Co}
use Rattle.axioms.specs.Permitted.{Good}
use Rattle.sequential.specs.Single.{Jam21, AllSc, Sequential}
use Rattle.sequential.proofs.Below.{some_below, some_below_decides, greatest, greatest_is, greatest_le, greatest_lt}
use Rattle.sequential.proofs.Blocks.{block, rf_draws, write_block, read_block, read_not_block, block_ways, block_writes, block_location, write_present}
use Rattle.sequential.proofs.Intervals.{Timed, Keyed, keyed}
use Rattle.sequential.proofs.Places.{place, place_there, place_within, place_listed, place_up, place_before, before_first}
use Rattle.sequential.proofs.Rules.{po_kept, po_pushed}
use Rattle.sequential.proofs.Sorting.{Sorted, by_key, by_key_passes, by_key_lists, by_key_sorted, before_key, sorted_once, key_before}

module _ (m : Meaning) (jam : Jam21 m) (es : List Event) (proper : Proper es) (sc : AllSc es) (sourced : SourceCycle es → ⊥) (L : List ℕ) (good : Good m es L) where
  -- The initial writes close before all others. An event that does not push is the last of its thread: its place is past
  -- the list, and it closes after all others.
  closes : ℕ → ℕ
  closes e = cond (ltb e 8) 1 (2 + place L e)

  opens : ℕ → ℕ
  opens e = greatest (λ d. po es d e) closes (length es + 8)

  closes_initial : (e : ℕ) → e < 8 → closes e ≡ 1
  unfolding closes
  closes_initial e k = cond-true (ltb e 8) 1 (2 + place L e) (lt-ltb e 8 k)

  closes_added : (e : ℕ) → 8 ≤ e → closes e ≡ 2 + place L e
  unfolding closes
  closes_added e k = cond-false (ltb e 8) 1 (2 + place L e) (le-ltb e 8 k)

  closes_some : (e : ℕ) → 0 < closes e
  closes_some e = ⊎_elim (λ k. omega (arith, closes_initial e k)) (λ k. omega (arith, closes_added e k)) (cases_lt e 8)

  opens_after : (d e : ℕ) → Po es d e → closes d ≤ opens e
  unfolding opens
  opens_after d e o = greatest_le (λ x. po es x e) closes (length es + 8) d (omega (arith, o.earlier, o.added.1)) ((po_decides es d e).1 o)

  opens_below : (e b : ℕ) → 0 < b → ((d : ℕ) → Po es d e → closes d < b) → opens e < b
  unfolding opens
  opens_below e b z f = greatest_lt (λ x. po es x e) closes (length es + 8) b z (λ d k t. f d ((po_decides es d e).0 t))

  opens_at : (e : ℕ) → 0 < opens e → (d : ℕ) × (Po es d e) × (opens e ≡ closes d)
  unfolding opens
  opens_at e z =
      elim (greatest_is (λ x. po es x e) closes (length es + 8)) [
        | inl q ↦ absurd (omega arith)
        | inr k ↦ (k.0, (po_decides es k.0 e).0 k.2, k.3)
      ]

  po_pushes : (d b : ℕ) → 8 ≤ d → Po es d b → Pushes m es d
  po_pushes d b k o = (b, po_pushed m jam es sc d b k o)

  -- an event with another after it in program order closes before whatever it reaches
  closes_before : (d b e : ℕ) → Po es d b → 8 ≤ e → Leads (SourceStep es) d e → closes d < closes e
  closes_before d b e o k steps =
      elim (cases_lt d 8) [
        | inl i ↦ omega (arith, closes_initial d i, closes_added e k)
        | inr i ↦ omega (arith, closes_added d i, closes_added e k, first i)
      ]
    where
      first : 8 ≤ d → place L d < place L e
      first i =
          let listed = good.push_order.all d (po_pushes d b i o) in
          elim (cases_lt (place L e) (length L)) [
            | inl w ↦
                place_up L d e good.push_order.once
                (good.lawful d e listed (place_listed L e w) (λ x. sourced (d, subst (λ y. Leads (SourceStep es) d y) (sym x) steps)) steps)
            | inr w ↦ omega (arith, place_within L d listed)
          ]

  lasts : (e : ℕ) → Present es e → opens e < closes e
  lasts e l = opens_below e (closes e) (closes_some e) (λ d o. closes_before d e e o o.added.0 (last (inl o)))

  -- what precedes a read's source in program order reaches the read
  block_opens : (e : ℕ) → Present es e → opens (block es e) < closes e
  block_opens e l =
      elim (block_ways es proper sc e l) [
        | inl w ↦ subst (λ x. opens x < closes e) (sym w.1) (lasts e l)
        | inr f ↦ opens_below (block es e) (closes e) (closes_some e) (λ d o. closes_before d (block es e) e o f.added.0 (more (inl o) (last (inr f))))
      ]

  -- what closes before e opens is visible to e
  visible : (a e : ℕ) → closes a ≤ opens e → Vvo m es L a e
  visible a e q = ⊎_elim initial added (cases_lt a 8)
    where
      last_before : (d : ℕ) × (Po es d e) × (opens e ≡ closes d)
      last_before = opens_at e (omega (arith, closes_some a))

      d : ℕ
      d = last_before.0

      o : Po es d e
      o = last_before.1

      initial : a < 8 → Vvo m es L a e
      initial k = inr (inl (po_kept m jam es sc a e (record { added = o.added; earlier = omega (arith, o.added.0); joined = inl k })))

      added : 8 ≤ a → Vvo m es L a e
      added k =
          elim (cases_lt d 8) [
            | inl i ↦ absurd (omega (arith, closes_added a k, closes_initial d i, last_before.2))
            | inr i ↦
                let within = place_within L d (good.push_order.all d (po_pushes d e i o)) in
                let up : place L a ≤ place L d = omega (arith, closes_added a k, closes_added d i, last_before.2) in
                elim (cases_eq (place L a) (place L d)) [
                  | inl y ↦
                      let same : d ≡ a = sym (place_there L d within) ∙ ap (λ j. get_or L j 0) (sym y) ∙ place_there L a (omega arith) in
                      inr (inl (po_kept m jam es sc a e (subst (λ z. Po es z e) same o)))
                  | inr y ↦ inr (inr (record { by = d; earlier = place_before L a d (omega arith) within; pushed = po_pushed m jam es sc d e i o }))
                ]
          ]

  -- the two are of different blocks of one location, and a closes before e opens
  Apart : ℕ → ℕ → Type 0
  Apart a e = (block es a ≡ block es e → ⊥) × (((event es a).location ≡ (event es e).location) × (closes a ≤ opens e))

  -- then coherence leads from block to block
  apart_co : (a e : ℕ) → Present es a → Present es e → Apart a e → Co m es L (block es a) (block es e)
  unfolding Apart
  apart_co a e first second h =
      elim (block_ways es proper sc e second) [
        | inl w ↦ record { rule = Coww; coherence = refl; reader = 0; second = 0; holds = (rivals, inl (subst (Leads (Vvo m es L) (block es a)) (sym w.1) leads)) }
        | inr f ↦ record { rule = Cowr; coherence = refl; reader = e; second = 0; holds = (rivals, (f, inl leads)) }
      ]
    where
      leads : Leads (Vvo m es L) (block es a) e
      leads =
          elim (block_ways es proper sc a first) [
            | inl w ↦ last (subst (λ x. Vvo m es L x e) (sym w.1) (visible a e h.1.1))
            | inr f ↦ more (inl f) (last (visible a e h.1.1))
          ]

      rivals : Rivals es (block es a) (block es e)
      rivals = record {
        first = block_writes es proper sc a first;
        second = block_writes es proper sc e second;
        location = block_location es proper sc a first ∙ h.1.0 ∙ sym (block_location es proper sc e second);
        distinct = h.0;
      }

  -- the steps between the blocks x and y, and their test
  Between : ℕ → ℕ → ℕ → ℕ → Type 0
  Between x y a e = (block es a ≡ x) × ((block es e ≡ y) × Apart a e)

  between : ℕ → ℕ → ℕ → ℕ → Bool
  between x y a e = eqb (block es a) x && (eqb (block es e) y && (not (eqb (block es a) (block es e)) && (eqb (event es a).location (event es e).location && leb (closes a) (opens e))))

  between_decides : (x y a e : ℕ) → Decides (between x y a e) (Between x y a e)
  unfolding Apart Between between
  between_decides x y a e =
      Decides-and (eqb (block es a) x) _ (Decides-eqb (block es a) x)
      (Decides-and (eqb (block es e) y) _ (Decides-eqb (block es e) y)
      (Decides-and (not (eqb (block es a) (block es e))) _ (Decides-not (eqb (block es a) (block es e)) (Decides-eqb (block es a) (block es e)))
      (Decides-and (eqb (event es a).location (event es e).location) _ (Decides-eqb (event es a).location (event es e).location)
      (leb_decides (closes a) (opens e)))))

  step : ℕ → ℕ → Bool
  step x y = some_below (λ a. some_below (between x y a) (length es + 8)) (length es + 8)

  step_decides : (x y : ℕ) → Decides (step x y) ((a : ℕ) × Present es a × ((e : ℕ) × Present es e × Between x y a e))
  unfolding step
  step_decides x y =
      some_below_decides (λ a. some_below (between x y a) (length es + 8)) (λ a. (e : ℕ) × Present es e × Between x y a e)
      (λ a. some_below_decides (between x y a) (Between x y a) (between_decides x y a) (length es + 8))
      (length es + 8)

  step_in : (a e : ℕ) → Present es a → Present es e → Apart a e → step (block es a) (block es e) ≡ true
  unfolding Between
  step_in a e k l h = (step_decides (block es a) (block es e)).1 (a, k, (e, l, (refl, (refl, h))))

  step_co : (x y : ℕ) → step x y ≡ true → Co m es L x y
  unfolding Between
  step_co x y t =
      let h = (step_decides x y).0 t in
      let a = h.0 in
      let e = h.2.0 in
      let b = h.2.2 in
      subst₂ (Co m es L) b.0 b.1.0 (apart_co a e h.1 h.2.1 b.1.1)

  timed : Timed (length es + 8) opens closes (λ e. (event es e).location) (block es) step
  unfolding Apart
  timed = record {
    block_in = λ e l. write_present es (block es e) (block_writes es proper sc e l);
    block_own = λ e l. write_block es (block es e) (block_writes es proper sc e l);
    block_location = block_location es proper sc;
    lasts = lasts;
    block_opens = block_opens;
    steps = λ a e k l d q t. step_in a e k l (d, (q, t));
    no_cycle = λ a c. good.clear (a, leads_carries (λ x y. step x y ≡ true) (Co m es L) step_co a a c);
  }

  keys : Keyed (length es + 8) opens closes (λ e. (event es e).location) (block es)
  keys = keyed (length es + 8) opens closes (λ e. (event es e).location) (block es) step timed

  key : ℕ → ℕ
  key = keys.key

  S : List ℕ
  S = by_key key (λ _. true) (length es + 8)

  sorted : Sorted key S
  unfolding key S
  sorted = by_key_sorted key (λ _. true) (length es + 8) keys.apart

  listed : (a : ℕ) → Present es a → Listed S a
  unfolding S
  listed a l = by_key_lists key (λ _. true) (length es + 8) a l refl

  listed_present : (a : ℕ) → Listed S a → Present es a
  unfolding S
  listed_present a l = (by_key_passes key (λ _. true) (length es + 8) a l).0

  before : (a b : ℕ) → Present es a → Present es b → key a < key b → Before S a b
  before a b k l q = key_before key S sorted a b (listed a k) (listed b l) q

  program : (a b : ℕ) → Po es a b → Before S a b
  unfolding key
  program a b o =
      let k : Present es a = omega (arith, o.earlier, o.added.1) in
      before a b k o.added.1 (keys.onward a b k o.added.1 (opens_after a b o))

  source : (w r : ℕ) → Rf es w r → Before S w r
  unfolding key
  source w r f =
      before w r (rf_draws es proper w r f).0 f.added.1
      (subst (λ z. key z < key r) (read_block es proper w r f) (keys.first r f.added.1 (read_not_block es proper w r f)))

  latest : (w r v : ℕ) → Rf es w r → is_write (event es v).code ≡ true → (event es v).location ≡ (event es r).location → Before S w v → Before S v r → ⊥
  unfolding key
  latest w r v f writes q x y =
      keys.latest r v f.added.1 (listed_present v (before_first S v r y)) (write_block es v writes) q
      (subst (λ z. key z < key v) (sym (read_block es proper w r f)) (before_key key S sorted w v x))
      (before_key key S sorted v r y)

  pub permitted_sequential : Sequential es
  permitted_sequential = (
    S,
    record { each = listed_present; all = listed; once = sorted_once key S sorted; program = program; source = source; latest = latest },
  )
