-- A pair is alike to itself in its thread alone.
use Rattle.std.proofs.Common.{◌≡◌, ℕ, ◌+◌, ◌-◌, ◌<◌, ◌≤◌, eqb, List, [], ◌∷◌, ◌++◌, map, length, get_or, take, sym, refl, ap, ◌∙◌, ap₂, inl, inr, ⊎_elim, append_assoc, arith}
use Rattle.std.proofs.lemmas.List.{length-append, length_push, get_or_at, take_all, take_at}
use Rattle.std.proofs.lemmas.Bool.{cases_lt, cases_Bool}
use Rattle.graph.specs.declared.event.Event.{Event}
use Rattle.graph.specs.Events.{event, absent}
use Rattle.graph.specs.Order.{Po}
use Rattle.profiles.specs.Segments.{between}
use Rattle.profiles.specs.Threads.{sketch, in_thread, alone, sequence, place, Alike}
use Rattle.profiles.specs.Ordered.{event_added, place_added, place_initial}
use Rattle.profiles.specs.SegmentLaws.{thread_more, thread_whole, mate_first}

-- a thread of a thread
twice : (t : ℕ) (xs : List Event) → in_thread t (in_thread t xs) ≡ in_thread t xs
twice t [] = refl
twice t (x ∷ xs) = let h = twice t xs in ⊎_elim (λ e. rw e (rw e (ap (λ ys. x ∷ ys) h))) (λ e. rw e h) (cases_Bool (eqb x.thread t))

module _ (es : List Event) (a b : ℕ) (p : Po es a b) where
  -- what stands before b in its thread
  past : List Event
  past = in_thread (event es b).thread (take (b - 8) es)

  alone_split : alone es b ≡ past ++ event es b ∷ []
  unfolding alone past
  alone_split = thread_more es (event es b).thread b p.added.0 p.added.1 refl

  place_last : place es b b ≡ 8 + length past
  unfolding past
  place_last = place_added es b b p.added.0

  alone_length : length (alone es b) ≡ length past + 1
  alone_length = ap length alone_split ∙ length_push past (event es b)

  last_alone : event (alone es b) (place es b b) ≡ event es b
  last_alone =
      event_added (alone es b) (place es b b) (omega (arith, place_last))
      ∙ ap (λ xs. get_or xs (place es b b - 8) absent) alone_split
      ∙ get_or_at past (event es b) [] absent (place es b b - 8) (omega (arith, place_last))

  last_thread : (event (alone es b) (place es b b)).thread ≡ (event es b).thread
  last_thread = ap (λ e. e.thread) last_alone

  module _ (l : 8 ≤ a) where
    -- what stands before a
    fore : List Event
    fore = in_thread (event es b).thread (take (a - 8) es)

    place_first : place es a b ≡ 8 + length fore
    unfolding fore
    place_first = place_added es a b l

    past_whole : past ≡ fore ++ event es a ∷ between es a b
    unfolding past fore
    past_whole = thread_whole es a b p l

    alone_whole : alone es b ≡ fore ++ event es a ∷ (between es a b ++ event es b ∷ [])
    alone_whole = alone_split ∙ ap (λ xs. xs ++ event es b ∷ []) past_whole ∙ append_assoc fore (event es a ∷ between es a b) (event es b ∷ [])

    first_alone : event (alone es b) (place es a b) ≡ event es a
    first_alone =
        event_added (alone es b) (place es a b) (omega (arith, place_first))
        ∙ ap (λ xs. get_or xs (place es a b - 8) absent) alone_whole
        ∙ get_or_at fore (event es a) (between es a b ++ event es b ∷ []) absent (place es a b - 8) (omega (arith, place_first))

    fore_shorter : length fore < length past
    fore_shorter = omega (arith, ap length past_whole, length-append fore (event es a ∷ between es a b))

    fore_twice : in_thread (event es b).thread fore ≡ fore
    unfolding fore
    fore_twice = twice (event es b).thread (take (a - 8) es)

    place_again : place (alone es b) (place es a b) (place es b b) ≡ place es a b
    place_again =
        let low : 8 ≤ place es a b = omega (arith, place_first) in
        let front : take (place es a b - 8) (alone es b) ≡ fore = ap (take (place es a b - 8)) alone_whole ∙ take_at fore _ (place es a b - 8) (omega (arith, place_first)) in
        place_added (alone es b) (place es a b) (place es b b) low
        ∙ ap₂ (λ t xs. 8 + length (in_thread t xs)) last_thread front ∙ ap (λ xs. 8 + length xs) fore_twice ∙ sym place_first

  po_alone : Po (alone es b) (place es a b) (place es b b)
  po_alone = record {
    added = (omega (arith, place_last), omega (arith, place_last, alone_length));
    earlier = ⊎_elim (λ l. omega (arith, place_last, place_initial es a b l)) (λ l. omega (arith, place_last, place_first l, fore_shorter l)) (cases_lt a 8);
    joined = ⊎_elim (λ l. inl (omega (arith, place_initial es a b l))) (λ l. inr (ap (λ e. e.thread) (first_alone l) ∙ mate_first es a b p l ∙ sym last_thread)) (cases_lt a 8);
  }

  sequence_alone : sequence es b ≡ sequence (alone es b) (place es b b)
  unfolding sequence alone
  sequence_alone =
      let t = (event es b).thread in
      let all : take (place es b b - 7) (alone es b) ≡ alone es b = take_all (place es b b - 7) (alone es b) (omega (arith, place_last, alone_length)) in
      sym (ap₂ (λ u xs. map sketch (in_thread u xs)) last_thread all ∙ ap (map sketch) (twice t (take (b - 7) es)))

  pub alone_alike : Alike es a b (alone es b) (place es a b) (place es b b)
  alone_alike = record {
    ordered = p;
    ordered_too = po_alone;
    same_sequence = sequence_alone;
    same_place = ⊎_elim
        (λ l.
        let low : place es a b < 8 = omega (arith, place_initial es a b l) in
        sym (place_initial (alone es b) (place es a b) (place es b b) low))
        (λ l. sym (place_again l)) (cases_lt a 8);
  }
