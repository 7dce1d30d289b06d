-- The steps of reads-from, added read by read.
use Rattle.std.proofs.Common.{◌≡◌, ℕ, ◌+◌, ◌-◌, ◌<◌, true, ◌⊎◌, ◌≢◌, List, length, get_or, Some, sym, refl, ap, ◌∙◌, subst, inl, inr, arith}
use Rattle.std.proofs.lemmas.Bool.{cases_lt, cases_eq, cond-false, le-ltb}
use Rattle.std.proofs.lemmas.Bool.Decides.{Decides-like, Decides-at}
use Rattle.measures.specs.Reach.{yes}
use Rattle.measures.specs.Walks.{at}
use Rattle.graph.specs.declared.event.Event.{Event}
use Rattle.graph.specs.Events.{event, absent, initial_write}
use Rattle.graph.specs.Order.{Rf, Names}
use Rattle.axioms.specs.declared.table.EventTable.{EventTable}
use Rattle.axioms.specs.EventTables.{CellSet}
use Rattle.coherence.specs.Visibility.{Gained}

-- The steps to the first i added events.
abbrev pub RfBelow : List Event → ℕ → ℕ → ℕ → Type 0
RfBelow es i a b = Rf es a b × (b < i + 8)

module _ (es : List Event) where
  pub sourced_none : (xs : List ℕ) → Gained (length es + 8) (RfBelow es 0) xs xs
  sourced_none xs a b p q = (inl, λ s. elim s [ inl e ↦ e | inr t ↦ let l = t.0.added.0 in let h = t.1 in absurd (omega arith) ])

  pub sourced_all : (i : ℕ) (xs ys : List ℕ) → i ≡ length es → Gained (length es + 8) (RfBelow es i) xs ys → Gained (length es + 8) (Rf es) xs ys
  sourced_all i xs ys end done a b p q =
      Decides-like (yes (at (length es + 8) ys a b))
      (λ s. elim s [ inl e ↦ inl e | inr t ↦ inr t.0 ])
      (λ s. elim s [ inl e ↦ inl e | inr t ↦ inr (t, omega arith) ])
      (done a b p q)

  module _ (i : ℕ) (within : i < length es) (xs ys : List ℕ) (so_far : Gained (length es + 8) (RfBelow es i) xs ys) where
    its_source : (event es (i + 8)).source ≡ (get_or es i absent).source
    its_source =
        let place : i + 8 - 8 ≡ i = omega arith in
        let added = cond-false _ (initial_write (i + 8)) (get_or es (i + 8 - 8) absent) (le-ltb (i + 8) 8 (omega arith)) in
        ap (λ e. e.source) (added ∙ ap (λ k. get_or es k absent) place)

    wider : (a b : ℕ) → RfBelow es i a b → RfBelow es (i + 1) a b
    wider a b t = let h = t.1 in (t.0, omega arith)

    -- The event after the first i takes its value from no event of the graph.
    pub sourced_skip : ((w : ℕ) → Names (get_or es i absent).source w → ⊥) → Gained (length es + 8) (RfBelow es (i + 1)) xs ys
    sourced_skip none a b p q =
        Decides-like (yes (at (length es + 8) ys a b))
        (λ s. elim s [ inl e ↦ inl e | inr t ↦ inr (wider a b t) ])
        (λ s. elim s [
          | inl e ↦ inl e
          | inr t ↦ elim (cases_lt b (i + 8)) [
            | inl l ↦ inr (t.0, l)
            | inr l ↦
                let h = t.1 in
                let same : b ≡ i + 8 = omega arith in
                absurd (none a (subst (λ s. Names s a) its_source (subst (λ d. Names (event es d).source a) same t.0.source)))
          ]
        ])
        (so_far a b p q)

    -- It takes its value from w, and the table zs says that.
    module _ (w : ℕ) (is : (get_or es i absent).source ≡ Some w) (zs : List ℕ)
        (here : w < length es + 8 → yes (at (length es + 8) zs w (i + 8)) ≡ true)
        (elsewhere : (a b : ℕ) → a < length es + 8 → b < length es + 8 → (a ≢ w) ⊎ (b ≢ i + 8) → at (length es + 8) zs a b ≡ at (length es + 8) ys a b)
      where
        source_is : (event es (i + 8)).source ≡ Some w
        source_is = its_source ∙ is

        its_step : Rf es w (i + 8)
        its_step = record { added = (omega arith, omega arith); source = subst (λ s. Names s w) (sym source_is) refl }

        only : (a : ℕ) → Rf es a (i + 8) → w ≡ a
        only a r = subst (λ s. Names s a) source_is r.source

        pub sourced_more : Gained (length es + 8) (RfBelow es (i + 1)) xs zs
        sourced_more a b p q =
            elim (cases_eq b (i + 8)) [
              | inl column ↦ elim (cases_eq a w) [
                | inl row ↦ (
                  λ _. inr (subst (λ x. RfBelow es (i + 1) x b) (sym row) (subst (λ x. RfBelow es (i + 1) w x) (sym column) (its_step, omega arith))),
                  λ _. subst (λ x. yes (at (length es + 8) zs x b) ≡ true) (sym row) (subst (λ x. yes (at (length es + 8) zs w x) ≡ true) (sym column) (here (omega arith))),
                )
                | inr apart ↦
                    Decides-at _ (yes (at (length es + 8) ys a b)) (ap yes (elsewhere a b p q (inl apart)))
                    (Decides-like (yes (at (length es + 8) ys a b))
                    (λ s. elim s [ inl e ↦ inl e | inr t ↦ inr (wider a b t) ])
                    (λ s. elim s [ inl e ↦ inl e | inr t ↦ absurd (apart (sym (only a (subst (Rf es a) column t.0)))) ])
                    (so_far a b p q))
              ]
              | inr apart ↦
                  Decides-at _ (yes (at (length es + 8) ys a b)) (ap yes (elsewhere a b p q (inr apart)))
                  (Decides-like (yes (at (length es + 8) ys a b))
                  (λ s. elim s [ inl e ↦ inl e | inr t ↦ inr (wider a b t) ])
                  (λ s. elim s [ inl e ↦ inl e | inr t ↦ let h = t.1 in inr (t.0, omega arith) ])
                  (so_far a b p q))
            ]

  pub sourced_marked : (i : ℕ) → i < length es → (xs : List ℕ) (t u : EventTable) → t.side ≡ length es + 8 → Gained (length es + 8) (RfBelow es i) xs t.cells →
      (w : ℕ) → (get_or es i absent).source ≡ Some w → CellSet t u w (i + 8) true → Gained (length es + 8) (RfBelow es (i + 1)) xs u.cells
  sourced_marked i within xs t u side so_far w is marked =
      sourced_more i within xs t.cells so_far w is u.cells
      (λ wn. subst (λ n. yes (at n u.cells w (i + 8)) ≡ true) side (marked.here (omega arith) (omega arith)))
      (λ a b p q apart. subst (λ n. at n u.cells a b ≡ at n t.cells a b) side (marked.elsewhere a b (omega arith) (omega arith) apart))
