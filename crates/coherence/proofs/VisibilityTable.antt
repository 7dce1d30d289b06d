-- A table that has the steps of visibility tells, once it is settled, what leads where by them.
use Rattle.std.proofs.Common.{◌≡◌, ℕ, ◌+◌, ◌*◌, ◌<◌, ◌≤◌, true, ◌⊎◌, List, length, Ok, Err, Result, get_or, take, sym, refl, ap, ◌∙◌, subst, inl, inr}
use Rattle.std.proofs.lemmas.Bool.Decides.{Decides-like}
use Rattle.std.proofs.lemmas.List.{get_or-take}
use Rattle.measures.specs.declared.settling.Refusal.{Refusal}
use Rattle.measures.specs.Outcome.{Square, Either}
use Rattle.measures.specs.Reach.{yes}
use Rattle.measures.specs.Walks.{at, Yes, Leads, Reachable, last, more}
use Rattle.cycles.proofs.Carrying.{leads_carries}
use Rattle.graph.specs.declared.event.Event.{Event}
use Rattle.graph.specs.Order.{Rf}
use Rattle.profiles.specs.Meaning.{Meaning}
use Rattle.axioms.specs.declared.table.EventTable.{EventTable}
use Rattle.axioms.specs.EventTables.{cells_of, Copied, Settled}
use Rattle.axioms.specs.Relations.{Kept, Pushed, PushStep, Vvo}
use Rattle.axioms.specs.Tables.{Drawn}
use Rattle.axioms.proofs.Drawing.{place_within}
use Rattle.axioms.proofs.Fronts.{front_drawn}
use Rattle.coherence.specs.Visibility.{Fits, Told, Within, AllFit, DrawnWithin, Gained, PushedLater}

module _ (es : List Event) (L kept pushed : List ℕ) where
  n : ℕ
  n = length es + 8

  module _ (m : Meaning) (law : Within m es) (is-kept : Drawn (Kept m es) (length es + 8) kept) (is-pushed : Drawn (Pushed m es) (length es + 8) pushed) where
    -- Every step leads to an added event.
    step_within : (a b : ℕ) → Vvo m es L a b → b < length es + 8
    step_within a b (inl f) = f.added.1
    step_within a b (inr (inl k)) = law.kept a b k
    step_within a b (inr (inr s)) = (law.pushed s.by b s.pushed).1

    later_step : (a c : ℕ) → PushedLater n pushed L a c → PushStep m es L a c
    unfolding n
    later_step a c s = record {
      by = s.by;
      earlier = s.earlier;
      pushed = (is-pushed s.by c s.pushed.row s.pushed.column).0 s.pushed.is_yes;
    }

    step_later : (a c : ℕ) → c < n → PushStep m es L a c → PushedLater n pushed L a c
    unfolding n
    step_later a c q s =
        let row = (law.pushed s.by c s.pushed).0 in
        record {
          by = s.by;
          earlier = s.earlier;
          pushed = record { row = row; column = q; is_yes = (is-pushed s.by c row q).1 s.pushed };
        }

    module _ (ys zs : List ℕ) (steps : Gained n (PushedLater n pushed L) kept ys) (sources : Gained n (Rf es) ys zs) where
      to_vvo : (a b : ℕ) → Yes n zs a b → Vvo m es L a b
      unfolding n
      to_vvo a b s =
          elim ((sources a b s.row s.column).0 s.is_yes) [
            | inr f ↦ inl f
            | inl e ↦ elim ((steps a b s.row s.column).0 e) [
              | inl k ↦ inr (inl ((is-kept a b s.row s.column).0 k))
              | inr t ↦ inr (inr (later_step a b t))
            ]
          ]

      from_vvo : (a b : ℕ) → a < n → Vvo m es L a b → Yes n zs a b
      unfolding n
      from_vvo a b p v =
          let q = step_within a b v in
          let gained : (yes (at n ys a b) ≡ true) ⊎ Rf es a b =
          elim v [
            | inl f ↦ inr f
            | inr w ↦ inl ((steps a b p q).1 (elim w [ inl k ↦ inl ((is-kept a b p q).1 k) | inr s ↦ inr (step_later a b q s) ]))
          ] in
          record { row = p; column = q; is_yes = (sources a b p q).1 gained }

      leads_table : (b a : ℕ) → a < n → Leads (Vvo m es L) a b → Leads (Yes n zs) a b
      unfolding n
      leads_table b a p (last v) = last (from_vvo a b p v)
      leads_table b a p (more {v = c} v r) = more (from_vvo a c p v) (leads_table b c (step_within a c v) r)

      settled_tells : (ws : List ℕ) → Square n ws → Reachable n zs ws → Told m es L ws
      unfolding n
      settled_tells ws square reach = record {
        fits = square;
        drawn = λ a b p q. Decides-like (yes (at n ws a b)) (leads_carries (Yes n zs) (Vvo m es L) to_vvo b a) (leads_table b a p) (reach a b p q);
      }

  -- What a drawing of visibility answers, from the table of kept pairs by the push steps and the sources to the settled one.
  pub drawing : (xs ys zs ws : List ℕ) (r : Result (Unit {0}) Refusal) → AllFit es kept pushed xs → Fits es zs → Fits es ws →
      Gained (length es + 8) (PushedLater (length es + 8) pushed L) kept ys → Gained (length es + 8) (Rf es) ys zs →
      Either Reachable (length es + 8) zs ws r → DrawnWithin es kept pushed L xs ws r
  unfolding n
  drawing xs ys zs ws (Ok tt) all fits square steps sources done = (
    all,
    λ m law is-kept is-pushed. settled_tells m law is-kept is-pushed ys zs steps sources ws square done.1,
  )
  drawing xs ys zs ws (Err why) all fits square steps sources refused = absurd (refused.unfit fits)

-- What gained its steps from one table gained them from another with the same entries.
gained_from : (n : ℕ) (S : ℕ → ℕ → Type 0) (xs ws ys : List ℕ) → ((a b : ℕ) → a < n → b < n → at n xs a b ≡ at n ws a b) → Gained n S xs ys → Gained n S ws ys
gained_from n S xs ws ys same gained a b p q =
    Decides-like (yes (at n ys a b))
    (λ s. elim s [ inl e ↦ inl (ap yes (sym (same a b p q)) ∙ e) | inr t ↦ inr t ])
    (λ s. elim s [ inl e ↦ inl (ap yes (same a b p q) ∙ e) | inr t ↦ inr t ])
    (gained a b p q)

-- A copy of the kept pairs that gained the push steps and then the sources, and is settled.
module _ (es : List Event) (L kept pushed : List ℕ) (t steps sources u : EventTable)
    (copied : Copied es kept t)
    (gained : Gained t.side (PushedLater t.side pushed L) t.cells steps.cells)
    (side : sources.side ≡ t.side)
    (sourced : Gained (length es + 8) (Rf es) steps.cells sources.cells)
    (settled : Settled sources u)
  where
    entries : (a b : ℕ) → a < length es + 8 → b < length es + 8 → at (length es + 8) t.cells a b ≡ at (length es + 8) kept a b
    entries a b p q =
        let n = length es + 8 in
        let fits : a * n + b < t.side * t.side = subst (λ k. a * n + b < k * k) (sym copied.side) (place_within a b n p q) in
        sym (get_or-take (t.side * t.side) t.cells (a * n + b) 0 fits) ∙ ap (λ xs. get_or xs (a * n + b) 0) copied.cells

    whole : u.side ≡ length es + 8
    whole = settled.side ∙ side ∙ copied.side

    pub cells_fit : Fits es (cells_of u)
    cells_fit = (subst (λ k. k ≤ 64) whole u.small, settled.square ∙ ap (λ k. k * k) whole)

    pub told_within : (m : Meaning) → Within m es → Drawn (Kept m es) (length es + 8) kept → Drawn (Pushed m es) (length es + 8) pushed → Told m es L (cells_of u)
    unfolding n
    told_within m law is-kept is-pushed =
        let k = length es + 8 in
        let pushes = gained_from k (PushedLater k pushed L) t.cells kept steps.cells entries
        (subst (λ j. Gained j (PushedLater j pushed L) t.cells steps.cells) copied.side gained) in
        let reach = subst (λ j. Reachable j sources.cells u.cells) (side ∙ copied.side) settled.reach in
        settled_tells es L kept pushed m law is-kept is-pushed steps.cells sources.cells pushes sourced (cells_of u) cells_fit
        (subst (λ j. Drawn (Leads (Yes k sources.cells)) k (take (j * j) u.cells)) (sym whole) (front_drawn k (k * k) u.cells refl (Leads (Yes k sources.cells)) reach))
