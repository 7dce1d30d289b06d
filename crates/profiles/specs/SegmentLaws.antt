-- Pairs that are alike have the same segment, so a profile that answers by segments is lawful.
use Rattle.std.specs.Prelude.{◌≡◌, ℕ, ◌+◌, ◌-◌, ◌<◌, ◌≤◌, Bool, true, ◌&&◌, ltb, List, [], ◌∷◌, ◌++◌, map, length, get_or, take, drop, nat_eq, nat_le, nat_lt, slice_index_or, refl}
use native.Mathlib.Omega.{arith}
use Rattle.std.proofs.Math.Path.{sym, ap}
use Rattle.std.proofs.Common.{ap₂, ◌∙◌}
use Rattle.std.proofs.Math.Logic.{⊎_elim}
use mathlib.Core.List.{append_assoc}
use Rattle.std.proofs.lemmas.List.Elements.{filter-append, filter_more}
use Rattle.std.proofs.lemmas.List.{map-append, length-map, length_push, take-append-drop, take-take, drop_at, get_or_at, same_from_push}
use Rattle.std.proofs.lemmas.Bool.{and_parts, and_from, cases_lt, eq-eqb, leb-true}
use Rattle.std.proofs.lemmas.Bool.Decides.{nat_tests}
use Rattle.graph.specs.declared.event.Event.{Event}
use Rattle.graph.specs.Events.{event, absent, initial_write}
use Rattle.graph.specs.Order.{Po, po}
use Rattle.graph.proofs.Deciding.{po_decides}
use Rattle.profiles.specs.Laws.{Lawful}
use Rattle.profiles.specs.Threads.{Sketch, sketch, in_thread, alone, sequence, place, Alike}
use Rattle.profiles.specs.Segments.{between, Segment, segment, by_segment}
use Rattle.profiles.specs.Ordered.{place_added, place_initial, event_added, event_initial, added_first, po_alike, added_alike}

module _ (es : List Event) (t : ℕ) where
  pub thread_more : (n : ℕ) → 8 ≤ n → n < length es + 8 → (event es n).thread ≡ t → in_thread t (take (n - 7) es) ≡ in_thread t (take (n - 8) es) ++ event es n ∷ []
  thread_more n low high mate =
      let here = event_added es n low in
      let one : n - 7 ≡ n - 8 + 1 = omega arith in
      let of-t : nat_eq (get_or es (n - 8) absent).thread t ≡ true = eq-eqb (get_or es (n - 8) absent).thread t (sym (ap (λ e. e.thread) here) ∙ mate) in
      let more = filter_more (λ e. nat_eq e.thread t) es (n - 8) absent (omega arith) in
      rw one (rw of-t at more ∙ ap (λ e. in_thread t (take (n - 8) es) ++ e ∷ []) (sym here))

module _ (es : List Event) (a b : ℕ) (p : Po es a b) where
  -- b's thread before b, without sources
  before : List Sketch
  before = map sketch (in_thread (event es b).thread (take (b - 8) es))

  sequence_split : sequence es b ≡ before ++ sketch (event es b) ∷ []
  unfolding sequence alone before
  sequence_split = ap (map sketch) (thread_more es (event es b).thread b p.added.0 p.added.1 refl) ∙ map-append sketch (in_thread (event es b).thread (take (b - 8) es)) _

  front : List Event
  front = in_thread (event es b).thread (take (a - 7) es)

  thread_split : in_thread (event es b).thread (take (b - 8) es) ≡ front ++ between es a b
  unfolding front between
  thread_split =
      let t = (event es b).thread in
      let l = take (b - 8) es in
      let short : a - 7 ≤ b - 8 = omega (arith, p.earlier, p.added.0) in
      ap (in_thread t) (sym (take-append-drop (a - 7) l)) ∙ filter-append (λ e. nat_eq e.thread t) (take (a - 7) l) (drop (a - 7) l)
      ∙ ap (λ m. in_thread t m ++ in_thread t (drop (a - 7) l)) (take-take (a - 7) (b - 8) es short)

  pub mate_first : 8 ≤ a → (event es a).thread ≡ (event es b).thread
  mate_first l = ⊎_elim (λ k. absurd (omega arith)) (λ e. e) p.joined

  front_length : length front ≡ place es a b - 7
  unfolding front
  front_length =
      ⊎_elim
      (λ l. let none : a - 7 ≡ 0 = omega arith in rw (place_initial es a b l, none))
      (λ l.
      let added = added_first es a b p l in
      let fore = in_thread (event es b).thread (take (a - 8) es) in
      omega (arith, ap length (thread_more es (event es b).thread a l added.1 (mate_first l)), length_push fore (event es a), place_added es a b l))
      (cases_lt a 8)

  inner_is : map sketch (between es a b) ≡ drop (place es a b - 7) before
  unfolding before
  inner_is =
      let split = ap (map sketch) thread_split ∙ map-append sketch front (between es a b) in
      sym (ap (drop (place es a b - 7)) split ∙ drop_at (map sketch front) (map sketch (between es a b)) (place es a b - 7) (length-map front sketch ∙ front_length))

  -- b's thread before b: what stands before a, then a, then what stands between
  pub thread_whole : 8 ≤ a → in_thread (event es b).thread (take (b - 8) es) ≡ in_thread (event es b).thread (take (a - 8) es) ++ event es a ∷ between es a b
  unfolding front
  thread_whole l =
      let t = (event es b).thread in
      let added = added_first es a b p l in
      thread_split ∙ ap (λ m. m ++ between es a b) (thread_more es t a l added.1 (mate_first l)) ∙ append_assoc (in_thread t (take (a - 8) es)) (event es a ∷ []) (between es a b)

  first_is : 8 ≤ a → sketch (event es a) ≡ slice_index_or before (place es a b - 8) (sketch absent)
  unfolding before
  first_is l =
      let fore = in_thread (event es b).thread (take (a - 8) es) in
      let split = ap (map sketch) (thread_whole l) ∙ map-append sketch fore (event es a ∷ between es a b) in
      let at : length (map sketch fore) ≡ place es a b - 8 = omega (arith, length-map fore sketch, place_added es a b l) in
      sym (ap (λ m. get_or m (place es a b - 8) (sketch absent)) split ∙ get_or_at (map sketch fore) (sketch (event es a)) (map sketch (between es a b)) (sketch absent) (place es a b - 8) at)

module _ (xs : List Event) (a b : ℕ) (ys : List Event) (c d : ℕ) (h : Alike xs a b ys c d) where
  same_before : (before xs a b h.ordered ≡ before ys c d h.ordered_too) × (sketch (event xs b) ≡ sketch (event ys d))
  same_before = same_from_push _ _ _ _ (sym (sequence_split xs a b h.ordered) ∙ h.same_sequence ∙ sequence_split ys c d h.ordered_too)

  same_first : sketch (event xs a) ≡ sketch (event ys c)
  same_first =
      let added = added_alike xs a b ys c d h in
      ⊎_elim
      (λ l.
      let too : c < 8 = grind (arith, nat_tests) in
      let same : a ≡ c = sym (place_initial xs a b l) ∙ h.same_place ∙ place_initial ys c d too in
      ap sketch (event_initial xs a l ∙ ap initial_write same ∙ sym (event_initial ys c too)))
      (λ l.
      let too : 8 ≤ c = grind (arith, nat_tests) in
      first_is xs a b h.ordered l ∙ ap₂ (λ m n. get_or m (n - 8) (sketch absent)) same_before.0 h.same_place ∙ sym (first_is ys c d h.ordered_too too))
      (cases_lt a 8)

  same_inner : map sketch (between xs a b) ≡ map sketch (between ys c d)
  same_inner = inner_is xs a b h.ordered ∙ ap₂ (λ m n. drop (n - 7) m) same_before.0 h.same_place ∙ sym (inner_is ys c d h.ordered_too)

  same_initial : ltb a 8 ≡ nat_lt c 8
  same_initial = let added = added_alike xs a b ys c d h in grind (arith, nat_tests)

  pub segment_alike : segment xs a b ≡ segment ys c d
  segment_alike = let i = same_initial in let f = same_first in let n = same_inner in let l = same_before.1 in cc

-- what a profile by segments owes: a segment that is pushed is kept
pub by_segment_lawful : (keep push : Segment → Bool) → ((s : Segment) → push s ≡ true → keep s ≡ true) → Lawful (by_segment keep push)
by_segment_lawful keep push narrower = record {
  ordered = λ es a b e. (po_decides es a b).0 (and_parts (po es a b) (keep (segment es a b)) e).0;
  narrower = λ es a b e. let h = and_parts (po es a b) (push (segment es a b)) (and_parts (nat_le 8 a) _ e).1 in and_from (po es a b) (keep (segment es a b)) h.0 (narrower (segment es a b) h.1);
  from_added = λ es a b e.
      let h = and_parts (nat_le 8 a) (po es a b && push (segment es a b)) e in
      added_first es a b ((po_decides es a b).0 (and_parts (po es a b) (push (segment es a b)) h.1).0) (leb-true 8 a h.0);
  kept_alike = λ xs a b ys c d h. ap₂ ◌&&◌ (po_alike xs a b ys c d h) (ap keep (segment_alike xs a b ys c d h));
  pushed_alike = λ xs a b ys c d h. ap₂ ◌&&◌ (added_alike xs a b ys c d h) (ap₂ ◌&&◌ (po_alike xs a b ys c d h) (ap push (segment_alike xs a b ys c d h)));
}
