-- The first rule that holds, with the lowest readers.
use Rattle.std.proofs.Common.{◌≡◌, ℕ, ◌+◌, ◌<◌, ◌≤◌, true, ◌⊎◌, List, length, IfSome, Some, None, Option, sym, refl, subst, inl, inr, arith, lit≤, below_more, MatchOption}
use Rattle.std.proofs.lemmas.Bool.{cases_lt, cases_order, false≢true}
use Rattle.graph.specs.declared.event.Event.{Event}
use Rattle.profiles.specs.Meaning.{Meaning}
use Rattle.coherence.specs.Naming.{NotLater, Named, FirstNamed, Lowest, LowestPair}
use Rattle.axioms.specs.Relations.{Holds, Co}
use Rattle.axioms.specs.Rules.{number, is_coherence, Unused}
use Rattle.coherence.specs.declared.naming.NamedStep.{NamedStep}
use Rattle.axioms.specs.declared.rule.Rule.{Rule}
use Rattle.axioms.specs.declared.rule.Rule.TheVariants.{ProgramOrder, ReadsFrom, Coww, Cowr, Corw, Corr}

-- The first number that `find` meets below n is the lowest.
pub lowest_below : (P : ℕ → Type 0) (k n : ℕ) → k ≡ n → (o : Option ℕ) →
    MatchOption o ((x : ℕ) → 0 ≤ x → x < k → P x → ⊥) (λ i. (0 ≤ i) × (i < k) × P i × ((x : ℕ) → 0 ≤ x → x < i → P x → ⊥)) → Lowest n P o
lowest_below P k n is (Some i) h = (h.2, λ y p. elim (cases_lt y i) [ inl l ↦ absurd (h.3 y (omega arith) l p) | inr l ↦ l ])
lowest_below P k n is None h = λ x l. h x (omega arith) (omega arith)

module _ (m : Meaning) (es : List Event) (L : List ℕ) (p q : ℕ) where
  -- The readers of corr below k are passed, and k is tried with each second reader.
  module _ (k : ℕ) (below : (u : ℕ) → u < k → (v : ℕ) → Holds m es L Corr p q u v → ⊥) where
    pub pair_more : ((v : ℕ) → Holds m es L Corr p q k v → ⊥) → (u : ℕ) → u < k + 1 → (v : ℕ) → Holds m es L Corr p q u v → ⊥
    pair_more none = below_more (λ u. (v : ℕ) → Holds m es L Corr p q u v → ⊥) k below none

    pub pair_found : (s : ℕ) → Holds m es L Corr p q k s × ((y : ℕ) → Holds m es L Corr p q k y → s ≤ y) →
        LowestPair (Holds m es L Corr p q) (Some (record { rule = Corr; reader = k; second = s }))
    pair_found s found = (
      refl,
      (
        found.0,
        λ u v h. elim (cases_order k u) [
          | inl same ↦ inr (same, found.1 v (subst (λ x. Holds m es L Corr p q x v) (sym same) h))
          | inr way ↦ elim way [ inl l ↦ inl l | inr l ↦ absurd (below u l v h) ]
        ],
      ),
    )

    pub pair_none : length es + 8 ≤ k → (u v : ℕ) → Holds m es L Corr p q u v → ⊥
    pair_none end u v h = let within = h.1.0.added.1 in below u (omega arith) v h

  -- A second reader is an event of the graph.
  pub second_none : (r : ℕ) → ((x : ℕ) → x < length es + 8 → Holds m es L Corr p q r x → ⊥) → (v : ℕ) → Holds m es L Corr p q r v → ⊥
  second_none r none v h = none v h.1.1.1.added.1 h

  -- No rule before the n-th holds.
  pub record NoneBefore (n : ℕ) : Type 0 where
    pub coww : (n ≤ 3) ⊎ (Holds m es L Coww p q 255 255 → ⊥)
    pub cowr : (n ≤ 4) ⊎ ((x : ℕ) → x < length es + 8 → Holds m es L Cowr p q x 255 → ⊥)
    pub corw : (n ≤ 5) ⊎ ((x : ℕ) → x < length es + 8 → Holds m es L Corw p q x 255 → ⊥)

  not_before : (n : ℕ) → NoneBefore n → n ≤ 6 → (x : Rule) (u v : ℕ) → is_coherence x ≡ true → Holds m es L x p q u v → n ≤ number x
  not_before n none last ProgramOrder u v is h = absurd (false≢true is)
  not_before n none last ReadsFrom u v is h = absurd (false≢true is)
  not_before n none last Coww u v is h = elim none.coww [ inl l ↦ l | inr fails ↦ absurd (fails h) ]
  not_before n none last Cowr u v is h = elim none.cowr [ inl l ↦ l | inr fails ↦ absurd (fails u h.1.0.added.1 h) ]
  not_before n none last Corw u v is h =
      elim none.corw [
        | inl l ↦ l
        | inr fails ↦
            let earlier = h.1.before.earlier in
            let within = h.1.before.added.1 in
            absurd (fails u (omega arith) h)
      ]
  not_before n none last Corr u v is h = last

  -- What `name_step` answers where a rule x holds, and none before it.
  pub record Answer (o : Option NamedStep) : Type 0 where
    pub names : MatchOption o (Co m es L p q → ⊥) (Named m es L p q)
    pub first : IfSome o (FirstNamed m es L p q)

  pub by_coww : Holds m es L Coww p q 255 255 → Answer (Some (record { rule = Coww; reader = 255; second = 255 }))
  by_coww h = record {
    names = record { coherence = refl; holds = h; unused = (refl, refl) };
    first = record {
      rule = not_before 3 (record { coww = inl (lit≤ tt); cowr = inl (lit≤ tt); corw = inl (lit≤ tt) }) (lit≤ tt);
      readers = λ u v _. tt;
    };
  }

  module _ (no-coww : Holds m es L Coww p q 255 255 → ⊥) where
    pub by_cowr : (r : ℕ) → Holds m es L Cowr p q r 255 × ((y : ℕ) → Holds m es L Cowr p q y 255 → r ≤ y) → Answer (Some (record { rule = Cowr; reader = r; second = 255 }))
    by_cowr r found = record {
      names = record { coherence = refl; holds = found.0; unused = refl };
      first = record {
        rule = not_before 4 (record { coww = inr no-coww; cowr = inl (lit≤ tt); corw = inl (lit≤ tt) }) (lit≤ tt);
        readers = λ u v h. found.1 u h;
      };
    }

    module _ (no-cowr : (x : ℕ) → x < length es + 8 → Holds m es L Cowr p q x 255 → ⊥) where
      pub by_corw : (r : ℕ) → Holds m es L Corw p q r 255 × ((y : ℕ) → Holds m es L Corw p q y 255 → r ≤ y) → Answer (Some (record { rule = Corw; reader = r; second = 255 }))
      by_corw r found = record {
        names = record { coherence = refl; holds = found.0; unused = refl };
        first = record {
          rule = not_before 5 (record { coww = inr no-coww; cowr = inr no-cowr; corw = inl (lit≤ tt) }) (lit≤ tt);
          readers = λ u v h. found.1 u h;
        };
      }

      module _ (no-corw : (x : ℕ) → x < length es + 8 → Holds m es L Corw p q x 255 → ⊥) where
        none_before : (n : ℕ) → NoneBefore n
        none_before n = record { coww = inr no-coww; cowr = inr no-cowr; corw = inr no-corw }

        no_rule : ((u v : ℕ) → Holds m es L Corr p q u v → ⊥) → (x : Rule) (u v : ℕ) → is_coherence x ≡ true → Holds m es L x p q u v → ⊥
        no_rule none ProgramOrder u v is h = false≢true is
        no_rule none ReadsFrom u v is h = false≢true is
        no_rule none Coww u v is h = no-coww h
        no_rule none Cowr u v is h = no-cowr u h.1.0.added.1 h
        no_rule none Corw u v is h =
            let earlier = h.1.before.earlier in
            let within = h.1.before.added.1 in
            no-corw u (omega arith) h
        no_rule none Corr u v is h = none u v h

        pub by_corr : (o : Option NamedStep) → LowestPair (Holds m es L Corr p q) o → Answer o
        by_corr None none = record {
          names = λ co. no_rule none co.rule co.reader co.second co.coherence co.holds;
          first = tt;
        }
        by_corr (Some n) found = record {
          names = record {
            coherence = subst (λ x. is_coherence x ≡ true) (sym found.0) refl;
            holds = subst (λ x. Holds m es L x p q n.reader n.second) (sym found.0) found.1.0;
            unused = subst (λ x. Unused x n.reader n.second) (sym found.0) tt;
          };
          first = record {
            rule = subst (λ y. (x : Rule) (u v : ℕ) → is_coherence x ≡ true → Holds m es L x p q u v → number y ≤ number x) (sym found.0) (not_before 6 (none_before 6) (lit≤ tt));
            readers = subst (λ y. (u v : ℕ) → Holds m es L y p q u v → NotLater y n.reader n.second u v) (sym found.0) found.1.1;
          };
        }
