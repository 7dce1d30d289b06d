-- Push steps, added from the last listed event to the first.
use Rattle.std.proofs.Common.{◌≡◌, ℕ, ◌+◌, ◌*◌, ◌<◌, ◌≤◌, true, ◌||◌, ◌⊎◌, List, [], ◌∷◌, ◌++◌, length, get_or, take, drop, replicate, Decides, sym, refl, ap, ◌∙◌, subst, inl, inr, length-append, arith}
use Rattle.std.proofs.Math.Seq.{get_or-append_seam}
use Rattle.std.proofs.lemmas.List.{get_or-replicate, get_or_append_left, get_or-take, get_or-drop}
use Rattle.std.proofs.lemmas.Bool.{cases_lt, cases_order, false≢true}
use Rattle.std.proofs.lemmas.Bool.Decides.{Decides-at, Decides-like, Decides-or}
use Rattle.measures.specs.Reach.{yes}
use Rattle.measures.specs.Walks.{at, Yes}
use Rattle.axioms.specs.declared.table.EventTable.{EventTable}
use Rattle.axioms.specs.EventTables.{Joined}
use Rattle.axioms.specs.Tables.{CellsJoined}
use Rattle.coherence.specs.Visibility.{Gained, PushedLater}

-- An event that stands at the place k of L or later is pushed to c.
pub record LaterFrom (n : ℕ) (xs L : List ℕ) (k c : ℕ) : Type 0 where
  pub place : ℕ
  pub from : k ≤ place
  pub within : place < length L
  pub pushed : Yes n xs (get_or L place 0) c

-- A push step from an event that stands at the place k of L or later.
pub record StepFrom (n : ℕ) (xs L : List ℕ) (k a c : ℕ) : Type 0 where
  pub place : ℕ
  pub from : k ≤ place
  pub first : get_or L place 0 ≡ a
  pub later : LaterFrom n xs L (place + 1) c

-- The places from k on are done: the table xs gained their steps and is ys, and the row has all that they push to.
pub record PushedFrom (n : ℕ) (pushed L : List ℕ) (k : ℕ) (xs ys row : List ℕ) : Type 0 where
  pub later : (c : ℕ) → c < n → Decides (yes (get_or row c 0)) (LaterFrom n pushed L k c)
  pub steps : Gained n (StepFrom n pushed L k) xs ys

-- What is left of a list that is gone through from the back.
pub record FrontOf (L rest : List ℕ) : Type 0 where
  pub few : length rest ≤ length L
  pub same : (k : ℕ) → k < length rest → get_or rest k 0 ≡ get_or L k 0

pub record BackOf (L rest shorter : List ℕ) (x : ℕ) : Type 0 where
  pub front : FrontOf L shorter
  pub long : length rest ≡ length shorter + 1
  pub within : length shorter < length L
  pub there : get_or L (length shorter) 0 ≡ x

pub back_of : (L rest shorter : List ℕ) (x : ℕ) → rest ≡ shorter ++ x ∷ [] → FrontOf L rest → BackOf L rest shorter x
back_of L rest shorter x is front =
    let long : length rest ≡ length shorter + 1 = ap length is ∙ length-append shorter (x ∷ []) in
    record {
      front = record {
        few = omega (arith, front.few);
        same = λ k h.
            sym (ap (λ l. get_or l k 0) is ∙ get_or_append_left shorter (x ∷ []) 0 k h) ∙ front.same k (omega arith);
      };
      long = long;
      within = omega (arith, front.few);
      there = sym (front.same (length shorter) (omega arith)) ∙ ap (λ l. get_or l (length shorter) 0) is ∙ get_or-append_seam shorter x [] 0;
    }

-- A row of a table, cut out of its cells.
pub row_read : (n : ℕ) (xs : List ℕ) (e k c : ℕ) → k ≡ n → c < n → get_or (take k (drop (e * n) xs)) c 0 ≡ at n xs e c
row_read n xs e k c is h = get_or-take k (drop (e * n) xs) c 0 (omega arith) ∙ get_or-drop (e * n) xs c 0

module _ (n : ℕ) (pushed L : List ℕ) where
  pub pushed_none : (k : ℕ) (xs : List ℕ) → n ≤ 64 → length L ≤ k → PushedFrom n pushed L k xs xs (replicate 64 0)
  pushed_none k xs small end = record {
    later = λ c q.
        let no : get_or (replicate 64 0) c 0 ≡ 0 = get_or-replicate 64 c 0 0 (omega arith) in
        (λ e. absurd (false≢true (sym (ap yes no) ∙ e)), λ l. let w = l.within in let f = l.from in absurd (omega arith));
    steps = λ a b p q. (
      inl,
      λ s. elim s [
        | inl e ↦ e
        | inr t ↦
            let w = t.later.within in
            let f = t.later.from in
            let g = t.from in
            absurd (omega arith)
      ],
    );
  }

  module _ (k : ℕ) (within : k < length L) where
    later_split : (c : ℕ) → LaterFrom n pushed L k c → LaterFrom n pushed L (k + 1) c ⊎ Yes n pushed (get_or L k 0) c
    later_split c l =
        elim (cases_lt k l.place) [
          | inl h ↦ inl (record { place = l.place; from = omega arith; within = l.within; pushed = l.pushed })
          | inr h ↦
              let f = l.from in
              let same : l.place ≡ k = omega arith in
              inr (subst (λ p. Yes n pushed (get_or L p 0) c) same l.pushed)
        ]

    later_join : (c : ℕ) → LaterFrom n pushed L (k + 1) c ⊎ Yes n pushed (get_or L k 0) c → LaterFrom n pushed L k c
    later_join c (inl l) = let f = l.from in record { place = l.place; from = omega arith; within = l.within; pushed = l.pushed }
    later_join c (inr y) = record { place = k; from = omega arith; within = within; pushed = y }

    step_split : (a c : ℕ) → StepFrom n pushed L k a c → StepFrom n pushed L (k + 1) a c ⊎ ((get_or L k 0 ≡ a) × LaterFrom n pushed L (k + 1) c)
    step_split a c s =
        elim (cases_lt k s.place) [
          | inl h ↦ inl (record { place = s.place; from = omega arith; first = s.first; later = s.later })
          | inr h ↦
              let f = s.from in
              let same : s.place ≡ k = omega arith in
              inr (subst (λ p. get_or L p 0 ≡ a) same s.first, subst (λ p. LaterFrom n pushed L (p + 1) c) same s.later)
        ]

    step_wider : (a c : ℕ) → StepFrom n pushed L (k + 1) a c → StepFrom n pushed L k a c
    step_wider a c s = let f = s.from in record { place = s.place; from = omega arith; first = s.first; later = s.later }

    module _ (xs ys row : List ℕ) (so_far : PushedFrom n pushed L (k + 1) xs ys row) where
      -- The event at the place k has no row, so it pushes nothing.
      pub pushed_skip : n ≤ get_or L k 0 → PushedFrom n pushed L k xs ys row
      pushed_skip absent = record {
        later = λ c q. Decides-like (yes (get_or row c 0))
            (λ l. later_join c (inl l))
            (λ l. elim (later_split c l) [ inl m ↦ m | inr y ↦ let h = y.row in absurd (omega arith) ])
            (so_far.later c q);
        steps = λ a b p q. Decides-like (yes (at n ys a b))
            (λ s. elim s [ inl e ↦ inl e | inr t ↦ inr (step_wider a b t) ])
            (λ s. elim s [ inl e ↦ inl e | inr t ↦ elim (step_split a b t) [ inl u ↦ inr u | inr u ↦ let e = u.0 in absurd (omega arith) ] ])
            (so_far.steps a b p q);
      }

      -- Its row gains what later events push to, and that gains what it pushes to itself.
      module _ (e : ℕ) (is : get_or L k 0 ≡ e) (en : e < n) (zs wider : List ℕ)
          (joined : (b : ℕ) → b < n → yes (at n zs e b) ≡ (yes (at n ys e b) || yes (get_or row b 0)))
          (others : (a b : ℕ) → a < n → b < n → (a ≡ e → ⊥) → at n zs a b ≡ at n ys a b)
          (widened : (c : ℕ) → c < n → yes (get_or wider c 0) ≡ (yes (get_or row c 0) || yes (at n pushed e c)))
        where
          its_pushes : (c : ℕ) → c < n → Decides (yes (at n pushed e c)) (Yes n pushed (get_or L k 0) c)
          its_pushes c q = (
            λ t. subst (λ d. Yes n pushed d c) (sym is) (record { row = en; column = q; is_yes = t }),
            λ y. (subst (λ d. Yes n pushed d c) is y).is_yes,
          )

          later_now : (c : ℕ) → c < n → Decides (yes (get_or wider c 0)) (LaterFrom n pushed L k c)
          later_now c q =
              Decides-like (yes (get_or wider c 0)) (later_join c) (later_split c)
              (Decides-at (yes (get_or wider c 0)) (yes (get_or row c 0) || yes (at n pushed e c)) (widened c q)
              (Decides-or (yes (get_or row c 0)) (yes (at n pushed e c)) (so_far.later c q) (its_pushes c q)))

          row_now : (b : ℕ) → b < n → Decides (yes (at n zs e b)) ((yes (at n xs e b) ≡ true) ⊎ StepFrom n pushed L k e b)
          row_now b q =
              Decides-like (yes (at n zs e b))
              (λ s. elim s [
                | inl t ↦ elim t [ inl old ↦ inl old | inr u ↦ inr (step_wider e b u) ]
                | inr l ↦ inr (record { place = k; from = omega arith; first = is; later = l })
              ])
              (λ s. elim s [
                | inl old ↦ inl (inl old)
                | inr t ↦ elim (step_split e b t) [ inl u ↦ inl (inr u) | inr u ↦ inr u.1 ]
              ])
              (Decides-at (yes (at n zs e b)) (yes (at n ys e b) || yes (get_or row b 0)) (joined b q)
              (Decides-or (yes (at n ys e b)) (yes (get_or row b 0)) (so_far.steps e b en q) (so_far.later b q)))

          rest_now : (a b : ℕ) → a < n → b < n → (a ≡ e → ⊥) → at n zs a b ≡ at n ys a b → Decides (yes (at n zs a b)) ((yes (at n xs a b) ≡ true) ⊎ StepFrom n pushed L k a b)
          rest_now a b p q apart same =
              Decides-like (yes (at n zs a b))
              (λ s. elim s [ inl old ↦ inl old | inr t ↦ inr (step_wider a b t) ])
              (λ s. elim s [
                | inl old ↦ inl old
                | inr t ↦ elim (step_split a b t) [ inl u ↦ inr u | inr u ↦ absurd (apart (sym u.0 ∙ is)) ]
              ])
              (Decides-at (yes (at n zs a b)) (yes (at n ys a b)) (ap yes same) (so_far.steps a b p q))

          pub pushed_more : PushedFrom n pushed L k xs zs wider
          pushed_more = record {
            later = later_now;
            steps = λ a b p q.
                elim (cases_order a e) [
                  | inl same ↦ subst (λ d. Decides (yes (at n zs d b)) ((yes (at n xs d b) ≡ true) ⊎ StepFrom n pushed L k d b)) (sym same) (row_now b q)
                  | inr way ↦ elim way [
                    | inl l ↦ let apart : a ≡ e → ⊥ = λ s. omega arith in rest_now a b p q apart (others a b p q apart)
                    | inr l ↦ let apart : a ≡ e → ⊥ = λ s. omega arith in rest_now a b p q apart (others a b p q apart)
                  ]
                ];
          }

  -- The same of a table whose row was joined.
  pub pushed_joined : (k : ℕ) → k < length L → (xs row wider : List ℕ) (t u : EventTable) → t.side ≡ n → PushedFrom n pushed L (k + 1) xs t.cells row →
      (e : ℕ) → get_or L k 0 ≡ e → e < n → Joined t u e row → (cut : List ℕ) → ((c : ℕ) → c < n → get_or cut c 0 ≡ at n pushed e c) → n ≤ length row → CellsJoined cut row wider →
      PushedFrom n pushed L k xs u.cells wider
  pushed_joined k within xs row wider t u side so_far e is en joined cut reads long widened =
      pushed_more k within xs t.cells row so_far e is en u.cells wider
      (λ b q. subst (λ m. yes (at m u.cells e b) ≡ (yes (at m t.cells e b) || yes (get_or row b 0))) side (joined.row b (omega arith) (omega arith)))
      (λ a b p q apart. subst (λ m. at m u.cells a b ≡ at m t.cells a b) side (joined.elsewhere a b (omega arith) (omega arith) apart))
      (λ c q. widened c (omega arith) ∙ ap (λ x. yes (get_or row c 0) || yes x) (reads c q))

  step_listed : (a c : ℕ) → StepFrom n pushed L 0 a c → PushedLater n pushed L a c
  step_listed a c s = let f = s.later.from in record {
    by = get_or L s.later.place 0;
    earlier = record { i = s.place; j = s.later.place; earlier = omega arith; within = s.later.within; first = s.first; second = refl };
    pushed = s.later.pushed;
  }

  listed_step : (a c : ℕ) → PushedLater n pushed L a c → StepFrom n pushed L 0 a c
  listed_step a c s = let h = s.earlier.earlier in record {
    place = s.earlier.i;
    from = omega arith;
    first = s.earlier.first;
    later = record {
      place = s.earlier.j;
      from = omega arith;
      within = s.earlier.within;
      pushed = subst (λ d. Yes n pushed d c) (sym s.earlier.second) s.pushed;
    };
  }

  pub pushed_all : (k : ℕ) (xs ys row : List ℕ) → k ≡ 0 → PushedFrom n pushed L k xs ys row → Gained n (PushedLater n pushed L) xs ys
  pushed_all k xs ys row end done a b p q =
      Decides-like (yes (at n ys a b))
      (λ s. elim s [ inl old ↦ inl old | inr t ↦ inr (step_listed a b (subst (λ i. StepFrom n pushed L i a b) end t)) ])
      (λ s. elim s [ inl old ↦ inl old | inr t ↦ inr (subst (λ i. StepFrom n pushed L i a b) (sym end) (listed_step a b t)) ])
      (done.steps a b p q)
