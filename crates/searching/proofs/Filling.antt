-- A precedence is filled pair by pair, row by row.
use Rattle.std.proofs.Common.{◌≡◌, ℕ, ◌+◌, ◌<◌, ◌≤◌, ◌⊎◌, List, length, get_or, sym, ◌∙◌, subst, inl, inr, arith}
use Rattle.std.proofs.lemmas.Bool.{cases_eq}
use Rattle.measures.specs.Walks.{Leads}
use Rattle.cycles.specs.Tables.{Same}
use Rattle.graph.specs.declared.event.Event.{Event}
use Rattle.graph.specs.Proper.{Proper}
use Rattle.axioms.specs.declared.source_reach.SourceReach.{SourceReach}
use Rattle.axioms.specs.Reached.{Reached}
use Rattle.axioms.specs.Relations.{SourceStep}
use Rattle.orders.specs.Orders.{Precedes, Pair}
use Rattle.orders.specs.declared.precedence.Precedence.{Precedence}
use Rattle.searching.specs.Listing.{Reaches, Leading}

-- The rows above u are filled, and of row u the columns before v.
abbrev Done : ℕ → ℕ → ℕ → ℕ → Type 0
Done u v x y = (x < u) ⊎ ((x ≡ u) × (y < v))

pub record FilledTo (t : SourceReach) (E : List ℕ) (u v : ℕ) (b : Precedence) : Type 0 where
  pub count : b.count ≡ length E
  pub filled : (es : List Event) → Reached es t → Proper es → Same (Precedes b) (λ x y. Reaches es E x y × Done u v x y)

module _ (t : SourceReach) (E : List ℕ) where
  pub filled_none : (b : Precedence) → b.count ≡ length E → ((x y : ℕ) → Precedes b x y → ⊥) → FilledTo t E 0 0 b
  filled_none b count none = record {
    count = count;
    filled = λ es reached proper. record {
      to = λ x y p. absurd (none x y p);
      from = λ x y h. elim h.1 [ inl l ↦ absurd (omega arith) | inr l ↦ absurd (omega (arith, l.1)) ];
    };
  }

  module _ (u v : ℕ) (b : Precedence) (so_far : FilledTo t E u v b) where
    wider : (x y : ℕ) → Done u v x y → Done u (v + 1) x y
    wider x y (inl l) = inl l
    wider x y (inr l) = inr (l.0, omega (arith, l.1))

    -- The pair at hand, or one that was done before.
    this_or_before : (x y : ℕ) → Done u (v + 1) x y → Done u v x y ⊎ ((x ≡ u) × (y ≡ v))
    this_or_before x y (inl l) = inl (inl l)
    this_or_before x y (inr l) =
        elim (cases_eq y v) [ inl e ↦ inr (l.0, e) | inr e ↦ inl (inr (l.0, omega (arith, l.1))) ]

    pub filled_added : (c : Precedence) → u < length E → v < length E →
        ((es : List Event) → Reached es t → Proper es → Leads (SourceStep es) (get_or E u 0) (get_or E v 0)) →
        c.count ≡ b.count → Same (Precedes c) (λ x y. Precedes b x y ⊎ Pair b.count u v x y) → FilledTo t E u (v + 1) c
    filled_added c p q leads count added = record {
      count = count ∙ so_far.count;
      filled = λ es reached proper.
          let old = so_far.filled es reached proper in
          record {
            to = λ x y h. elim (added.to x y h) [
              | inl o ↦ let r = old.to x y o in (r.0, wider x y r.1)
              | inr o ↦
                  let first = o.first in
                  let second = o.second in (
                    record {
                      first = omega arith;
                      second = omega arith;
                      distinct = o.distinct;
                      way = subst (λ z. Leads (SourceStep es) (get_or E z 0) (get_or E y 0)) (sym first)
                          (subst (λ z. Leads (SourceStep es) (get_or E u 0) (get_or E z 0)) (sym second) (leads es reached proper));
                    },
                    inr (first, omega arith),
                  )
            ];
            from = λ x y h. added.from x y (elim (this_or_before x y h.1) [
              | inl d ↦ inl (old.from x y (h.0, d))
              | inr d ↦
                  let r = h.0 in
                  let n = so_far.count in
                  inr (record { first = d.0; second = d.1; first_below = omega (arith, r.first); second_below = omega (arith, r.second); distinct = r.distinct })
            ]);
          };
    }

    pub filled_skipped : ((es : List Event) → Reached es t → Proper es → Leads (SourceStep es) (get_or E u 0) (get_or E v 0) → ⊥) → FilledTo t E u (v + 1) b
    filled_skipped none = record {
      count = so_far.count;
      filled = λ es reached proper.
          let old = so_far.filled es reached proper in
          record {
            to = λ x y h. let r = old.to x y h in (r.0, wider x y r.1);
            from = λ x y h. elim (this_or_before x y h.1) [
              | inl d ↦ old.from x y (h.0, d)
              | inr d ↦
                  absurd (none es reached proper (subst (λ z. Leads (SourceStep es) (get_or E z 0) (get_or E v 0)) d.0
                  (subst (λ z. Leads (SourceStep es) (get_or E x 0) (get_or E z 0)) d.1 h.0.way)))
            ];
          };
    }

  pub filled_row : (u v : ℕ) (b : Precedence) → length E ≤ v → FilledTo t E u v b → FilledTo t E (u + 1) 0 b
  filled_row u v b all so_far = record {
    count = so_far.count;
    filled = λ es reached proper.
        let old = so_far.filled es reached proper in
        record {
          to = λ x y h. let r = old.to x y h in (r.0, inl (elim r.1 [ inl l ↦ omega arith | inr l ↦ omega (arith, l.0) ]));
          from = λ x y h. old.from x y (
            h.0,
            elim h.1 [
              | inl l ↦ elim (cases_eq x u) [ inl e ↦ inr (e, omega (arith, h.0.second)) | inr e ↦ inl (omega arith) ]
              | inr l ↦ absurd (omega (arith, l.1))
            ],
          );
        };
  }

  pub filled_all : (u : ℕ) (b : Precedence) → length E ≤ u → FilledTo t E u 0 b → (es : List Event) → Reached es t → Proper es → Leading es E b
  filled_all u b all so_far es reached proper =
      let old = so_far.filled es reached proper in
      record {
        count = so_far.count;
        reaches = record {
          to = λ x y h. (old.to x y h).0;
          from = λ x y r. old.from x y (r, inl (omega (arith, r.first)));
        };
      }
