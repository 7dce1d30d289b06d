-- A test of the codes strictly between two events, told by an event that stands between them.
use Rattle.std.specs.Prelude.{◌≡◌, ℕ, zero, suc, ◌+◌, ◌-◌, ◌<◌, ◌≤◌, Bool, true, ◌&&◌, List, [], ◌∷◌, map, length, get_or, take, drop, Decides, ◌==◌, slice_index_or, refl}
use Rattle.std.proofs.Common.{arith, sym, ap, ◌∙◌, inl, inr, ⊎_elim}
use Rattle.std.proofs.lemmas.Bool.{or_cases, or_left, or_right, and_parts, and_from, eq-eqb, eqb-true, cases_Bool}
use Rattle.std.proofs.lemmas.Bool.Decides.{Decides-like, Decides-at}
use Rattle.std.proofs.lemmas.List.{length-take, length-drop, get_or-take, get_or-drop, drop-drop}
use Rattle.graph.specs.declared.code.Code.{Code}
use Rattle.graph.specs.declared.event.Event.{Event}
use Rattle.graph.specs.Events.{event, absent}
use Rattle.graph.specs.Order.{Po}
use Rattle.profiles.specs.Threads.{sketch, codes_of}
use Rattle.profiles.specs.Segments.{Between, between, segment, inner_codes}
use Rattle.profiles.specs.Patterns.{followed, any}
use Rattle.profiles.specs.Ordered.{event_added}

-- the codes of a segment are those of the events
pub inner_codes_are : (es : List Event) (a b : ℕ) → inner_codes (segment es a b) ≡ codes_of (event es b).thread (drop (a - 7) (take (b - 8) es))
unfolding between
inner_codes_are es a b = codes_of_sketches (between es a b)
  where
    codes_of_sketches : (xs : List Event) → map (λ s. s.code) (map sketch xs) ≡ map (λ e. e.code) xs
    codes_of_sketches [] = refl
    codes_of_sketches (x ∷ xs) = ap (λ cs. x.code ∷ cs) (codes_of_sketches xs)

-- the event at k of xs is of thread t and passes p, and the codes of that thread after it pass q
record Found (p : Code → Bool) (q : List Code → Bool) (t : ℕ) (xs : List Event) (k : ℕ) : Type 0 where
  within : k < length xs
  mate : (get_or xs k absent).thread ≡ t
  passes : p (get_or xs k absent).code ≡ true
  rest : q (codes_of t (drop (suc k) xs)) ≡ true

module _ (p : Code → Bool) (q : List Code → Bool) (t : ℕ) where
  found_later : (x : Event) (xs : List Event) → (k : ℕ) × Found p q t xs k → (k : ℕ) × Found p q t (x ∷ xs) k
  found_later x xs h = let f = h.1 in (suc h.0, record { within = omega (arith, f.within); mate = f.mate; passes = f.passes; rest = f.rest })

  found : (xs : List Event) → followed p q (codes_of t xs) ≡ true → (k : ℕ) × Found p q t xs k
  found [] e = absurd (grind arith)
  found (x ∷ xs) e =
      ⊎_elim
      (λ mate.
      ⊎_elim
      (λ h. let both = and_parts (p x.code) (q (codes_of t xs)) h in
      (0, record { within = omega arith; mate = eqb-true x.thread t mate; passes = both.0; rest = both.1 }))
      (λ h. found_later x xs (found xs h))
      (or_cases (p x.code && q (codes_of t xs)) (followed p q (codes_of t xs)) (rw mate at e)))
      (λ other. found_later x xs (found xs (rw other at e)))
      (cases_Bool (x.thread == t))

  found_back : (xs : List Event) (k : ℕ) → Found p q t xs k → followed p q (codes_of t xs) ≡ true
  found_back [] k f = absurd (omega (arith, f.within))
  found_back (x ∷ xs) zero f =
      rw (eq-eqb x.thread t f.mate) (or_left (p x.code && q (codes_of t xs)) (followed p q (codes_of t xs)) (and_from (p x.code) (q (codes_of t xs)) f.passes f.rest))
  found_back (x ∷ xs) (suc k) f =
      let h = found_back xs k (record { within = omega (arith, f.within); mate = f.mate; passes = f.passes; rest = f.rest }) in
      ⊎_elim
      (λ mate. rw mate (or_right (p x.code && q (codes_of t xs)) (followed p q (codes_of t xs)) h))
      (λ other. rw other h)
      (cases_Bool (x.thread == t))

module _ (es : List Event) (a b : ℕ) (p : Po es a b) where
  -- the place in the part between, and the number in the list
  number : (k : ℕ) → k + (a - 7) < b - 8 → slice_index_or (drop (a - 7) (take (b - 8) es)) k absent ≡ event es (k + (a - 7) + 8)
  number k h =
      let low : 8 ≤ k + (a - 7) + 8 = omega arith in
      let there = event_added es (k + (a - 7) + 8) low in
      let same : k + (a - 7) + 8 - 8 ≡ a - 7 + k = omega arith in
      let inside : a - 7 + k < b - 8 = omega arith in
      get_or-drop (a - 7) (take (b - 8) es) k absent ∙ get_or-take (b - 8) es (a - 7 + k) absent inside ∙ ap (λ n. get_or es n absent) (sym same) ∙ sym there

  part_length : length (drop (a - 7) (take (b - 8) es)) ≡ b - 8 - (a - 7)
  part_length = simp (length-drop, length-take) (omega (arith, p.added.0, p.added.1))

  stands_between : (n : ℕ) → a < n → 8 ≤ n → n < b → (event es n).thread ≡ (event es b).thread → Between es a n b
  stands_between n after low before mate = record {
    after = record { added = (low, omega (arith, p.added.1)); earlier = after; joined = ⊎_elim inl (λ e. inr (e ∙ sym mate)) p.joined };
    before = record { added = p.added; earlier = before; joined = inr mate };
  }

  mate_between : (n : ℕ) → Between es a n b → (event es n).thread ≡ (event es b).thread
  mate_between n h = ⊎_elim (λ l. absurd (omega (arith, h.after.added.0))) (λ e. e) h.before.joined

  module _ (f : Code → Bool) (F : Code → Type 0) (each : (c : Code) → Decides (f c) (F c)) (q : List Code → Bool) (Q : ℕ → Type 0)
      (later : (n : ℕ) → Between es a n b → Decides (q (inner_codes (segment es n b))) (Q n)) where
    found_number : (k : ℕ) × Found f q (event es b).thread (drop (a - 7) (take (b - 8) es)) k → (n : ℕ) × Between es a n b × (F (event es n).code × Q n)
    found_number h =
        let k = h.0 in
        let n = k + (a - 7) + 8 in
        let inside : k + (a - 7) < b - 8 = omega (arith, part_length, h.1.within) in
        let here = number k inside in
        let stands = stands_between n (omega arith) (omega arith) (omega arith) (sym (ap (λ e. e.thread) here) ∙ h.1.mate) in
        let rest : drop (suc k) (drop (a - 7) (take (b - 8) es)) ≡ drop (n - 7) (take (b - 8) es) = drop-drop (suc k) (a - 7) (take (b - 8) es) ∙ ap (λ i. drop i (take (b - 8) es)) (omega arith) in
        (n, stands, ((each _).0 (ap (λ e. f e.code) (sym here) ∙ h.1.passes), (later n stands).0 (rw (inner_codes_are es n b) (rw rest at h.1.rest))))

    number_found : (n : ℕ) × Between es a n b × (F (event es n).code × Q n) → (k : ℕ) × Found f q (event es b).thread (drop (a - 7) (take (b - 8) es)) k
    number_found h =
        let n = h.0 in
        let low : 8 ≤ n = h.1.after.added.0 in
        let after : a < n = h.1.after.earlier in
        let before : n < b = h.1.before.earlier in
        let k = n - 8 - (a - 7) in
        let is-n : k + (a - 7) + 8 ≡ n = omega arith in
        let here : get_or (drop (a - 7) (take (b - 8) es)) k absent ≡ event es n = number k (omega arith) ∙ ap (event es) is-n in
        let rest : drop (suc k) (drop (a - 7) (take (b - 8) es)) ≡ drop (n - 7) (take (b - 8) es) = drop-drop (suc k) (a - 7) (take (b - 8) es) ∙ ap (λ i. drop i (take (b - 8) es)) (omega arith) in (
          k,
          record {
            within = omega (arith, part_length);
            mate = ap (λ e. e.thread) here ∙ mate_between n h.1;
            passes = ap (λ e. f e.code) here ∙ (each _).1 h.2.0;
            rest = rw rest (rw (inner_codes_are es n b) at ((later n h.1).1 h.2.1));
          },
        )

    -- the test that some code strictly between passes f, and those after it q
    pub followed_decides : Decides (followed f q (inner_codes (segment es a b))) ((n : ℕ) × Between es a n b × (F (event es n).code × Q n))
    followed_decides =
        let t = (event es b).thread in
        let xs = drop (a - 7) (take (b - 8) es) in
        Decides-at _ _ (ap (followed f q) (inner_codes_are es a b))
        (λ e. found_number (found f q t xs e), λ h. let k = number_found h in found_back f q t xs k.0 k.1)

  -- the test that some code strictly between passes f
  pub any_decides : (f : Code → Bool) (F : Code → Type 0) → ((c : Code) → Decides (f c) (F c)) → Decides (any f (inner_codes (segment es a b))) ((n : ℕ) × Between es a n b × F (event es n).code)
  any_decides f F each =
      Decides-like (any f (inner_codes (segment es a b))) (λ h. (h.0, h.1, h.2.0)) (λ h. (h.0, h.1, (h.2, tt)))
      (followed_decides f F each (λ _. true) (λ _. Unit {0}) (λ n h. (λ _. tt, λ _. refl)))
