-- The answers of every lawful profile outlast sourcing and addition, and are those of one thread alone.
use Rattle.std.proofs.Common.{◌≡◌, ℕ, ◌+◌, ◌-◌, ◌<◌, ◌≤◌, cond, eqb, ltb, List, [], ◌∷◌, ◌++◌, map, length, get_or, take, filter, sym, refl, ap, ◌∙◌, ap₂, inl, inr, ⊎_elim, arith}
use Rattle.std.proofs.lemmas.List.{length-append, length-map, take-append-le, take-map, get_or_append_left, get_or-map, get_or_past}
use Rattle.std.proofs.lemmas.Bool.{cases_lt, cases_Bool}
use Rattle.std.proofs.lemmas.Bool.Decides.{same_from_decides}
use Rattle.graph.specs.declared.event.Event.{Event}
use Rattle.graph.specs.Events.{event, absent, Present}
use Rattle.graph.specs.Order.{Po}
use Rattle.profiles.specs.Meaning.{Meaning}
use Rattle.profiles.specs.Laws.{Lawful}
use Rattle.profiles.specs.Lasting.{Lasting}
use Rattle.profiles.specs.Threads.{Sketch, sketch, in_thread, alone, sequence, place, Alike}
use Rattle.profiles.proofs.Alone.{alone_alike}
use Rattle.profiles.specs.Fences.{itself}
use Rattle.profiles.specs.Ordered.{event_added, event_initial}

-- pairs that are alike as soon as one of them is in program order get the same answers
module _ (m : Meaning) (l : Lawful m) (xs : List Event) (a b : ℕ) (ys : List Event) (c d : ℕ) (there : Po xs a b → Alike xs a b ys c d) (back : Po ys c d → Alike xs a b ys c d) where
  same_kept : m.kept xs a b ≡ m.kept ys c d
  same_kept =
      same_from_decides _ _ (
        λ e. sym (l.kept_alike xs a b ys c d (there (l.ordered xs a b e))) ∙ e,
        λ e. l.kept_alike xs a b ys c d (back (l.ordered ys c d e)) ∙ e,
      )
      (itself (m.kept ys c d))

  same_pushed : m.pushed xs a b ≡ m.pushed ys c d
  same_pushed =
      same_from_decides _ _ (
        λ e. sym (l.pushed_alike xs a b ys c d (there (l.ordered xs a b (l.narrower xs a b e)))) ∙ e,
        λ e. l.pushed_alike xs a b ys c d (back (l.ordered ys c d (l.narrower ys c d e))) ∙ e,
      )
      (itself (m.pushed ys c d))

module _ (es more : List Event) where
  event_grown : (n : ℕ) → Present es n → event (es ++ more) n ≡ event es n
  event_grown n h =
      ⊎_elim (λ k. event_initial (es ++ more) n k ∙ sym (event_initial es n k))
      (λ k. event_added (es ++ more) n k ∙ get_or_append_left es more absent (n - 8) (omega arith) ∙ sym (event_added es n k))
      (cases_lt n 8)

  grown_po : (a b : ℕ) → Po es a b → Po (es ++ more) a b
  grown_po a b p =
      let at_a = event_grown a (omega (arith, p.earlier, p.added.1)) in
      let at_b = event_grown b p.added.1 in
      record {
        added = (p.added.0, omega (arith, p.added.1, length-append es more));
        earlier = p.earlier;
        joined = ⊎_elim inl (λ e. inr (ap (λ x. x.thread) at_a ∙ e ∙ sym (ap (λ x. x.thread) at_b))) p.joined;
      }

  ungrown_po : (a b : ℕ) → Present es b → Po (es ++ more) a b → Po es a b
  ungrown_po a b h p =
      let at_a = event_grown a (omega (arith, p.earlier)) in
      let at_b = event_grown b h in
      record {
        added = (p.added.0, h);
        earlier = p.earlier;
        joined = ⊎_elim inl (λ e. inr (sym (ap (λ x. x.thread) at_a) ∙ e ∙ ap (λ x. x.thread) at_b)) p.joined;
      }

  grown_alike : (a b : ℕ) → Po es a b → Alike (es ++ more) a b es a b
  unfolding sequence alone place
  grown_alike a b p =
      let at_b = ap (λ x. x.thread) (event_grown b p.added.1) in
      let to-b = take-append-le (b - 7) es more (omega (arith, p.added.0, p.added.1)) in
      let to-a = take-append-le (a - 8) es more (omega (arith, p.earlier, p.added.1)) in
      record {
        ordered = grown_po a b p;
        ordered_too = p;
        same_sequence = ap₂ (λ t xs. map sketch (in_thread t xs)) at_b to-b;
        same_place = ap₂ (λ t xs. cond (ltb a 8) a (8 + length (in_thread t xs))) at_b to-a;
      }

-- one thread of a list without sources
sketches : ℕ → List Sketch → List Sketch
sketches t ss = filter (λ s. eqb s.thread t) ss

sketched : (t : ℕ) (xs : List Event) → map sketch (in_thread t xs) ≡ sketches t (map sketch xs)
unfolding sketches
sketched t [] = refl
sketched t (x ∷ xs) = let h = sketched t xs in ⊎_elim (λ e. rw e (ap (λ ss. sketch x ∷ ss) h)) (λ e. rw e h) (cases_Bool (eqb x.thread t))

module _ (xs ys : List Event) (same : map sketch xs ≡ map sketch ys) where
  same_length : length xs ≡ length ys
  same_length = sym (length-map xs sketch) ∙ ap length same ∙ length-map ys sketch

  same_event : (n : ℕ) → sketch (event xs n) ≡ sketch (event ys n)
  same_event n =
      ⊎_elim (λ k. ap sketch (event_initial xs n k ∙ sym (event_initial ys n k)))
      (λ k. ap sketch (event_added xs n k) ∙ same_at (n - 8) ∙ sym (ap sketch (event_added ys n k)))
      (cases_lt n 8)
    where
      same_at : (i : ℕ) → sketch (get_or xs i absent) ≡ sketch (get_or ys i absent)
      same_at i =
          ⊎_elim
          (λ h.
          let too : i < length ys = omega (arith, same_length) in
          sym (get_or-map sketch xs i absent (sketch absent) h) ∙ ap (λ ss. get_or ss i (sketch absent)) same ∙ get_or-map sketch ys i absent (sketch absent) too)
          (λ h.
          let too : length ys ≤ i = omega (arith, same_length) in
          ap sketch (get_or_past xs i absent h ∙ sym (get_or_past ys i absent too)))
          (cases_lt i (length xs))

  same_thread : (n : ℕ) → (event xs n).thread ≡ (event ys n).thread
  same_thread n = ap (λ s. s.thread) (same_event n)

  same_front : (t k : ℕ) → map sketch (in_thread t (take k xs)) ≡ map sketch (in_thread t (take k ys))
  same_front t k =
      sketched t (take k xs) ∙ ap (sketches t) (sym (take-map sketch k xs) ∙ ap (take k) same ∙ take-map sketch k ys) ∙ sym (sketched t (take k ys))

  same_count : (t k : ℕ) → length (in_thread t (take k xs)) ≡ length (in_thread t (take k ys))
  same_count t k = sym (length-map (in_thread t (take k xs)) sketch) ∙ ap length (same_front t k) ∙ length-map (in_thread t (take k ys)) sketch

  sourced_po : (a b : ℕ) → Po xs a b → Po ys a b
  sourced_po a b p = record {
    added = (p.added.0, omega (arith, p.added.1, same_length));
    earlier = p.earlier;
    joined = ⊎_elim inl (λ e. inr (sym (same_thread a) ∙ e ∙ same_thread b)) p.joined;
  }

  sourced_alike : (a b : ℕ) → Po xs a b → Alike xs a b ys a b
  unfolding sequence alone place
  sourced_alike a b p = record {
    ordered = p;
    ordered_too = sourced_po a b p;
    same_sequence = same_front (event xs b).thread (b - 7) ∙ ap (λ t. map sketch (in_thread t (take (b - 7) ys))) (same_thread b);
    same_place = ap (λ n. cond (ltb a 8) a (8 + n)) (same_count (event xs b).thread (a - 8) ∙ ap (λ t. length (in_thread t (take (a - 8) ys))) (same_thread b));
  }

pub lasting : (m : Meaning) → Lawful m → Lasting m
lasting m l = record {
  sourced = λ xs ys a b e.
      let there = sourced_alike xs ys e a b in
      let back = λ (p : Po ys a b). there (sourced_po ys xs (sym e) a b p) in
      (same_kept m l xs a b ys a b there back, same_pushed m l xs a b ys a b there back);
  grown = λ es more a b h.
      let back = grown_alike es more a b in
      let there = λ (p : Po (es ++ more) a b). back (ungrown_po es more a b h p) in
      (same_kept m l (es ++ more) a b es a b there back, same_pushed m l (es ++ more) a b es a b there back);
  one_thread = λ es a b p.
      let h = alone_alike es a b p in
      (l.kept_alike es a b (alone es b) (place es a b) (place es b b) h, l.pushed_alike es a b (alone es b) (place es a b) (place es b b) h);
}
