-- From a single order to a good push order: list the pushing events as the single order has them.
use Rattle.std.proofs.Common.{◌≡◌, ℕ, ◌+◌, ◌<◌, List, length, get_or, sym, ap, ◌∙◌, inl, inr, ⊎_elim, arith}
use Rattle.std.proofs.lemmas.Bool.{cases_order}
use Rattle.graph.specs.declared.event.Event.{Event}
use Rattle.graph.specs.Events.{Present}
use Rattle.graph.specs.Order.{Rf}
use Rattle.graph.specs.Proper.{Proper}
use Rattle.profiles.specs.Meaning.{Meaning}
use Rattle.axioms.specs.declared.rule.Rule.{Rule}
use Rattle.axioms.specs.declared.rule.Rule.TheVariants.{ProgramOrder, ReadsFrom, Coww, Cowr, Corw, Corr}
use Rattle.axioms.specs.Orders.{Before}
use Rattle.axioms.specs.Relations.{PushOrder, SourceStep, Lawful, Vvo, Visible, Rivals, Holds, Co}
use Rattle.axioms.specs.Permitted.{Good, Permitted}
use Rattle.sequential.specs.Single.{Jam21, Single}
use Rattle.sequential.proofs.Blocks.{rf_draws, write_present}
use Rattle.sequential.proofs.Places.{place, place_there, place_within, place_up, place_before}
use Rattle.sequential.proofs.Ranks.{leads_up}
use Rattle.sequential.proofs.Rules.{kept_po, pushed_po, pushes_present, pushes, pushes_decides}
use Rattle.sequential.proofs.Sorting.{Sorted, by_key, by_key_passes, by_key_lists, by_key_sorted, before_key, sorted_once, key_before}

module _ (m : Meaning) (jam : Jam21 m) (es : List Event) (proper : Proper es) (S : List ℕ) (single : Single es S) where
  apart : (a b : ℕ) → Present es a → Present es b → place S a ≡ place S b → a ≡ b
  apart a b k l e =
      sym (place_there S a (place_within S a (single.all a k))) ∙ ap (λ i. get_or S i 0) e ∙ place_there S b (place_within S b (single.all b l))

  before : (a b : ℕ) → Present es b → place S a < place S b → Before S a b
  before a b l h = place_before S a b h (place_within S b (single.all b l))

  L : List ℕ
  L = by_key (place S) (pushes m es) (length es + 8)

  sorted : Sorted (place S) L
  unfolding L
  sorted = by_key_sorted (place S) (pushes m es) (length es + 8) apart

  push_order : PushOrder m es L
  unfolding L
  push_order = record {
    each = λ a l. (pushes_decides m jam es a).0 (by_key_passes (place S) (pushes m es) (length es + 8) a l).1;
    all = λ a h. by_key_lists (place S) (pushes m es) (length es + 8) a (pushes_present m jam es a h) ((pushes_decides m jam es a).1 h);
    once = sorted_once (place S) L sorted;
  }

  -- every relation of the graph goes forward in the single order
  step_up : (a b : ℕ) → SourceStep es a b → place S a < place S b
  step_up a b = ⊎_elim (λ h. place_up S a b single.once (single.program a b h)) (λ h. place_up S a b single.once (single.source a b h))

  lawful : Lawful es L
  lawful a b p q n steps = key_before (place S) L sorted a b p q (leads_up (SourceStep es) (place S) step_up b a steps)

  vvo_up : (a b : ℕ) → Vvo m es L a b → place S a < place S b
  vvo_up a b (inl h) = step_up a b (inr h)
  vvo_up a b (inr (inl h)) = step_up a b (inl (kept_po m jam es a b h))
  vvo_up a b (inr (inr h)) = omega (arith, before_key (place S) L sorted a h.by h.earlier, step_up h.by b (inl (pushed_po m jam es h.by b h.pushed)))

  visible_up : (a b : ℕ) → Visible m es L a b → place S a < place S b
  visible_up a b = ⊎_elim (leads_up (Vvo m es L) (place S) vvo_up b a) (λ h. step_up a b (inl h.before))

  -- a write before a read of its location is before the read's source, unless it is the source
  before_source : (p q r : ℕ) → Rivals es p q → Rf es q r → place S p < place S r → place S p < place S q
  before_source p q r h f l =
      let first = write_present es p h.first in
      let second = write_present es q h.second in
      elim (cases_order (place S p) (place S q)) [
        | inl e ↦ absurd (h.distinct (apart p q first second e))
        | inr (inl k) ↦ k
        | inr (inr k) ↦
            absurd (single.latest q r p f h.first (h.location ∙ (rf_draws es proper q r f).2) (before q p first k) (before p r f.added.1 l))
      ]

  rule_up : (x : Rule) (p q r s : ℕ) → Holds m es L x p q r s → place S p < place S q
  rule_up ProgramOrder p q r s h = step_up p q (inl h)
  rule_up ReadsFrom p q r s h = step_up p q (inr h)
  rule_up Coww p q r s h = visible_up p q h.1
  rule_up Cowr p q r s h = before_source p q r h.0 h.1.0 (visible_up p r h.1.1)
  rule_up Corw p q r s h = omega (arith, visible_up p r h.1.visible, step_up r q (inl h.1.before))
  rule_up Corr p q r s h = before_source p q s h.0 h.1.1.1 (omega (arith, step_up p r (inr h.1.0), step_up r s (inl h.1.1.0)))

  co_up : (p q : ℕ) → Co m es L p q → place S p < place S q
  co_up p q h = rule_up h.rule p q h.reader h.second h.holds

  good : Good m es L
  good = record { push_order = push_order; lawful = lawful; clear = λ c. omega (arith, leads_up (Co m es L) (place S) co_up c.0 c.0 c.1) }

  pub single_permitted : Permitted m es
  single_permitted = (λ c. omega (arith, leads_up (SourceStep es) (place S) step_up c.0 c.0 c.1), (L, good))
