-- Calls one after the other, one more at a time.
use Rattle.std.proofs.Common.{◌≡◌, ℕ, suc, ◌+◌, ◌<◌, ◌≤◌, min, cond, List, [], ◌∷◌, ◌++◌, map, length, get_or, take, set, is_ok, Ok, Result, sym, refl, ap, ◌∙◌, subst, arith}
use lib.ListN.{length-map, get_or-map}
use Rattle.std.proofs.lemmas.List.{take_more, take_more_set, map-set, set-get_or, length-take-le}
use Rattle.graph.specs.declared.call.Call.{Call}
use Rattle.graph.specs.declared.call.Call.TheVariants.{Add, Source, TakeBack}
use Rattle.graph.specs.declared.event.Event.{Event}
use Rattle.graph.specs.declared.graph.Graph.{Graph}
use Rattle.graph.specs.declared.refusal.Refused.{Refused}
use Rattle.graph.specs.Events.{absent}
use Rattle.graph.specs.History.{Step, graph, attempt}
use Rattle.graph.specs.Holds.{Holds, Meets, written}
use Rattle.graph.specs.Memory.{room_of}
use Rattle.marker.specs.declared.entries.Entry.{Entry}
use Rattle.marker.specs.Calls.{after, answers, memory, stored, most, rewritten}
use Rattle.marker.specs.Entries.{call, answer}
use Rattle.marker.proofs.Reaching.{stored_keeps}

abbrev no_entry : Entry
no_entry = record { call = Add 0 0 0 0; answer = Ok 0 }

after_more : (room : ℕ) (hs : List Step) (cs : List Call) (c : Call) → after room hs (cs ++ c ∷ []) ≡ (attempt room (after room hs cs) c).steps
after_more room hs [] c = refl
after_more room hs (x ∷ cs) c = after_more room (attempt room hs x).steps cs c

answers_more : (room : ℕ) (hs : List Step) (cs : List Call) (c : Call) → answers room hs (cs ++ c ∷ []) ≡ answers room hs cs ++ (attempt room (after room hs cs) c).answer ∷ []
answers_more room hs [] c = refl
answers_more room hs (x ∷ cs) c = ap (λ l. (attempt room hs x).answer ∷ l) (answers_more room (attempt room hs x).steps cs c)

memory_more : (room : ℕ) (hs : List Step) (es : List Event) (cs : List Call) (c : Call) →
    memory room hs es (cs ++ c ∷ []) ≡ stored room (after room hs cs) (memory room hs es cs) c
memory_more room hs es [] c = refl
memory_more room hs es (x ∷ cs) c = memory_more room (attempt room hs x).steps (stored room hs es x) cs c

-- the most events at a time are as many as there were before a further call, and as there are after it
most_more : (room : ℕ) (hs : List Step) (cs : List Call) (c : Call) (k : ℕ) → most room hs (cs ++ c ∷ []) ≤ k →
    (most room hs cs ≤ k) × ((length (graph (after room hs cs)) ≤ k) × (length (graph (attempt room (after room hs cs) c).steps) ≤ k))
most_more room hs [] c k le = (omega arith, (omega arith, omega arith))
most_more room hs (x ∷ cs) c k le =
    let rest = most_more room (attempt room hs x).steps cs c k (omega arith) in
    (omega (arith, rest.0), rest.1)

answers_long : (room : ℕ) (hs : List Step) (cs : List Call) → length (answers room hs cs) ≡ length cs
answers_long room hs [] = refl
answers_long room hs (x ∷ cs) = ap suc (answers_long room (attempt room hs x).steps cs)

-- The graph g stood by the steps hs, its entries were xs; after the first i calls the graph is g' and the entries are ys.
pub record Sofar (g g' : Graph) (xs ys : List Entry) (i : ℕ) (hs : List Step) : Type 0 where
  pub calls : map call ys ≡ map call xs
  pub answered : take i (map answer ys) ≡ answers (room_of g.events.now) hs (take i (map call xs))
  pub stands : Holds g' (after (room_of g.events.now) hs (take i (map call xs)))
  pub slice : g'.events.now ≡ memory (room_of g.events.now) hs g.events.now (take i (map call xs))
  pub unreached : (k : ℕ) → most (room_of g.events.now) hs (take i (map call xs)) ≤ k → get_or g'.events.now k absent ≡ get_or g.events.now k absent
  pub room : room_of g'.events.now ≡ room_of g.events.now

-- A graph has as many added events as its steps tell.
added_long : (g : Graph) (ks : List Step) → Holds g ks → g.count ≡ length (graph ks)
added_long g ks holds =
    let within : g.count ≤ length g.events.now = omega (arith, holds.within) in
    sym (ap length holds.events ∙ length-take-le g.count g.events.now within)

-- What a graph's call writes, by the graph's slice and count alone.
written_is : (c : Call) (g : Graph) (ks : List Step) → written c g ks ≡ rewritten c g.count ks g.events.now
written_is (Add t n l v) g ks = refl
written_is (Source r w) g ks = refl
written_is TakeBack g ks = refl

module _ (g g' : Graph) (xs ys : List Entry) (i : ℕ) (hs : List Step) (s : Sofar g g' xs ys i hs) (in-xs : i < length xs) where
  pub one_more : (g'' : Graph) (r : Result ℕ Refused) (c : Call) → c ≡ (get_or ys i no_entry).call →
      ((ks : List Step) → Holds g' ks → Meets g'' r (attempt (room_of g'.events.now) ks c)) →
      ((ks : List Step) → Holds g' ks → g''.events.now ≡ cond (is_ok r) (written c g' ks) g'.events.now) →
      length g''.events.now ≡ length g'.events.now →
      Sofar g g'' xs (set ys i (record { call = c; answer = r })) (i + 1) hs
  one_more g'' r c is_call does writes len =
      let rm = room_of g.events.now in
      let es = g.events.now in
      let fs = g'.events.now in
      let cs = take i (map call xs) in
      let ks = after rm hs cs in
      let e : Entry = record { call = c; answer = r } in
      let long : length ys ≡ length xs = sym (length-map ys call) ∙ ap length s.calls ∙ length-map xs call in
      let at : get_or (map call xs) i no_entry.call ≡ c = sym (ap (λ l. get_or l i no_entry.call) s.calls) ∙ get_or-map call ys i no_entry ∙ sym is_call in
      let more : take (i + 1) (map call xs) ≡ cs ++ c ∷ [] = take_more (map call xs) i no_entry.call (omega (arith, length-map xs call)) ∙ ap (λ z. cs ++ z ∷ []) at in
      let met : Meets g'' r (attempt rm ks c) = subst (λ m. Meets g'' r (attempt m ks c)) s.room (does ks s.stands) in
      let same : stored rm ks fs c ≡ g''.events.now =
      ap (λ a. cond (is_ok a) (rewritten c (length (graph ks)) ks fs) fs) (sym met.0)
      ∙ ap (λ n. cond (is_ok r) (rewritten c n ks fs) fs) (sym (added_long g' ks s.stands))
      ∙ ap (λ zs. cond (is_ok r) zs fs) (sym (written_is c g' ks))
      ∙ sym (writes ks s.stands) in
      record {
        calls = map-set call ys i e ∙ ap (λ z. set (map call ys) i z) (is_call ∙ sym (get_or-map call ys i no_entry)) ∙ set-get_or (map call ys) i no_entry.call ∙ s.calls;
        answered =
            ap (take (i + 1)) (map-set answer ys i e) ∙ take_more_set (map answer ys) i r (omega (arith, length-map ys answer, long))
            ∙ ap (λ l. l ++ r ∷ []) s.answered ∙ ap (λ z. answers rm hs cs ++ z ∷ []) met.0
            ∙ sym (ap (answers rm hs) more ∙ answers_more rm hs cs c);
        stands = subst (Holds g'') (sym (ap (after rm hs) more ∙ after_more rm hs cs c)) met.1;
        slice =
            sym same ∙ ap (λ l. stored rm ks l c) s.slice ∙ sym (ap (memory rm hs es) more ∙ memory_more rm hs es cs c);
        unreached = λ k le.
            let parts = most_more rm hs cs c k (subst (λ l. most rm hs l ≤ k) more le) in
            ap (λ l. get_or l k absent) (sym same) ∙ stored_keeps rm g'.log ks fs c k s.stands.logged parts.1.0 parts.1.1 ∙ s.unreached k parts.0;
        room = ap (λ n. min 56 n) len ∙ s.room;
      }
