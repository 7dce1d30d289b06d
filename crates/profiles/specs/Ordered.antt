-- Facts about events and pairs in program order that serve every profile.
use Rattle.std.specs.Prelude.{◌≡◌, ℕ, ◌+◌, ◌-◌, ◌<◌, ◌≤◌, Bool, ◌&&◌, List, length, take, Decides, nat_le, slice_index_or}
use Rattle.std.proofs.Common.{arith, sym, ◌∙◌, inl, inr, ⊎_elim}
use Rattle.std.proofs.lemmas.Bool.{and_parts, and_from, lt-ltb, le-ltb}
use Rattle.std.proofs.lemmas.Bool.Decides.{nat_tests}
use Rattle.graph.specs.declared.event.Event.{Event}
use Rattle.graph.specs.Events.{event, initial_write, absent, Added}
use Rattle.graph.specs.Order.{Po, po}
use Rattle.graph.proofs.Deciding.{po_decides}
use Rattle.profiles.specs.Threads.{Alike, place, in_thread}

pub event_added : (es : List Event) (n : ℕ) → 8 ≤ n → event es n ≡ slice_index_or es (n - 8) absent
event_added es n h = grind (arith, nat_tests)

pub event_initial : (es : List Event) (n : ℕ) → n < 8 → event es n ≡ initial_write n
event_initial es n h = grind (arith, nat_tests)

-- what precedes another event is present, so past the initial writes it is an added event
pub added_first : (es : List Event) (a b : ℕ) → Po es a b → 8 ≤ a → Added es a
added_first es a b p l = (l, omega (arith, p.earlier, p.added.1))

pub po_trans : (es : List Event) (a n b : ℕ) → Po es a n → Po es n b → Po es a b
po_trans es a n b p q = record {
  added = q.added;
  earlier = omega (arith, p.earlier, q.earlier);
  joined = ⊎_elim inl (λ e. ⊎_elim (λ l. absurd (omega (arith, p.added.0))) (λ f. inr (e ∙ f)) q.joined) p.joined;
}

-- a test for pairs in program order, and a relation that holds of no others
pub decides_under : {R : Type 0} (es : List Event) (a b : ℕ) (r : Bool) → (R → Po es a b) → (Po es a b → Decides r R) → Decides (po es a b && r) R
decides_under es a b r ordered under = (
  λ e. let h = and_parts (po es a b) r e in (under ((po_decides es a b).0 h.0)).0 h.1,
  λ h. and_from (po es a b) r ((po_decides es a b).1 (ordered h)) ((under (ordered h)).1 h),
)

pub po_alike : (xs : List Event) (a b : ℕ) (ys : List Event) (c d : ℕ) → Alike xs a b ys c d → po xs a b ≡ po ys c d
po_alike xs a b ys c d h = (po_decides xs a b).1 h.ordered ∙ sym ((po_decides ys c d).1 h.ordered_too)

pub place_added : (es : List Event) (a b : ℕ) → 8 ≤ a → place es a b ≡ 8 + length (in_thread (event es b).thread (take (a - 8) es))
unfolding place
place_added es a b l = rw (le-ltb a 8 l)

pub place_initial : (es : List Event) (a b : ℕ) → a < 8 → place es a b ≡ a
unfolding place
place_initial es a b l = rw (lt-ltb a 8 l)

-- the place tells whether it is an initial write
leb_place : (es : List Event) (a b : ℕ) → nat_le 8 (place es a b) ≡ nat_le 8 a
unfolding place
leb_place es a b = let n = length (in_thread (event es b).thread (take (a - 8) es)) in grind (arith, nat_tests)

pub added_alike : (xs : List Event) (a b : ℕ) (ys : List Event) (c d : ℕ) → Alike xs a b ys c d → nat_le 8 a ≡ nat_le 8 c
added_alike xs a b ys c d h = cc (leb_place xs a b, leb_place ys c d)
