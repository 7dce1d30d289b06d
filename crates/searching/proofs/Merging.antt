-- The row of what stands for the open events, column by column.
use lib.Arith.{digits_lt}
use Rattle.std.proofs.Common.{◌≡◌, ℕ, ◌+◌, ◌*◌, ◌<◌, ◌≤◌, ◌≢◌, ◌⊎◌, Bool, List, length, get_or, Decides, sym, refl, ap, ◌∙◌, subst, inl, inr, arith}
use Rattle.std.proofs.lemmas.List.{get_or-take}
use Rattle.std.proofs.lemmas.Bool.{cases_lt}
use Rattle.std.proofs.lemmas.Bool.Decides.{Decides-like}
use Rattle.measures.specs.Reach.{yes}
use Rattle.measures.specs.Walks.{at}
use Rattle.graph.specs.declared.event.Event.{Event}
use Rattle.axioms.specs.declared.table.EventTable.{EventTable}
use Rattle.axioms.specs.EventTables.{cells_of, CellSet}
use Rattle.axioms.specs.Tables.{Drawn}
use Rattle.coherence.specs.Visibility.{Fits}
use Rattle.searching.specs.Sieves.{Cyclic, CyclicSoFar, OpenPush, Merging, tabled}
use Rattle.searching.proofs.Monotone.{more_cycles}
use Rattle.searching.proofs.Tabled.{tells_yes, yes_tells}

module _ (n : ℕ) (xs E placed : List ℕ) where
  -- The first columns of row 0 are written, and the other rows are as they were.
  pub record MergedTo (t : EventTable) (column : ℕ) : Type 0 where
    pub side : t.side ≡ n
    pub row : (c : ℕ) → c < column → c < n → Decides (yes (at n t.cells 0 c)) (OpenPush n xs E placed c)
    pub rest : (a c : ℕ) → 0 < a → a < n → c < n → at n t.cells a c ≡ at n xs a c

  own : (t : EventTable) → t.side ≡ n → (a c : ℕ) → a < n → c < n → at n (cells_of t) a c ≡ at n t.cells a c
  own t side a c p q =
      let within : a * n + c < t.side * t.side = rw side (digits_lt p q) in
      get_or-take (t.side * t.side) t.cells (a * n + c) 0 within

  pub merged_none : (t : EventTable) → t.side ≡ n → cells_of t ≡ xs → MergedTo t 0
  merged_none t side copied = record {
    side = side;
    row = λ c h p. absurd (omega arith);
    rest = λ a c some p q. sym (own t side a c p q) ∙ ap (λ ys. get_or ys (a * n + c) 0) copied;
  }

  pub merged_more : (t u : EventTable) (column : ℕ) (v : Bool) → column < n → CellSet t u 0 column v → Decides v (OpenPush n xs E placed column) →
      MergedTo t column → MergedTo u (column + 1)
  merged_more t u column v h marked told so_far =
      let is = so_far.side in
      let here : yes (at n u.cells 0 column) ≡ v = subst (λ k. yes (at k u.cells 0 column) ≡ v) is (marked.here (omega arith) (omega arith)) in
      let elsewhere : (c d : ℕ) → c < n → d < n → (c ≢ 0) ⊎ (d ≢ column) → at n u.cells c d ≡ at n t.cells c d = λ c d p q ne.
      subst (λ k. at k u.cells c d ≡ at k t.cells c d) is (marked.elsewhere c d (omega arith) (omega arith) ne) in
      record {
        side = marked.side ∙ is;
        row = λ c k p. elim (cases_lt c column) [
          | inl l ↦
              let other : c ≢ column = omega arith in
              subst (λ y. Decides (yes y) (OpenPush n xs E placed c)) (sym (elsewhere 0 c (omega arith) p (inr other))) (so_far.row c l p)
          | inr l ↦
              let same : column ≡ c = omega arith in
              subst (λ z. Decides (yes (at n u.cells 0 z)) (OpenPush n xs E placed z)) same
              (subst (λ b. Decides b (OpenPush n xs E placed column)) (sym here) told)
        ];
        rest = λ a c some p q. let other : a ≢ 0 = omega arith in elsewhere a c p q (inl other) ∙ so_far.rest a c some p q;
      }

  pub merged_all : (t : EventTable) (column : ℕ) → n ≤ column → MergedTo t column → Drawn (Merging n xs E placed) n (cells_of t)
  merged_all t column all m a c p q =
      elim (cases_lt 0 a) [
        | inl some ↦
            let same : yes (at n (cells_of t) a c) ≡ yes (at n xs a c) = ap yes (own t m.side a c p q ∙ m.rest a c some p q) in
            (λ e. inl (some, sym same ∙ e), λ h. elim h [ inl own ↦ same ∙ own.1 | inr any ↦ absurd (omega (arith, any.0)) ])
        | inr none ↦
            let zero_row : 0 ≡ a = omega arith in
            let first : 0 < n = omega arith in
            let d = subst (λ w. Decides (yes w) (OpenPush n xs E placed c)) (sym (own t m.side 0 c first q)) (m.row c (omega arith) q) in
            subst (λ z. Decides (yes (at n (cells_of t) z c)) (Merging n xs E placed z c)) zero_row
            (λ e. inr (refl, d.0 e), λ h. elim h [ inl own ↦ absurd (omega (arith, own.0)) | inr any ↦ d.1 any.1 ])
      ]

-- Two tables of the merged pushes have the same cycles.
pub same_cycles : (es : List Event) (kept pushed E placed L ys : List ℕ) → Drawn (Merging (length es + 8) pushed E placed) (length es + 8) ys → Fits es ys →
    CyclicSoFar es kept pushed E placed L → Cyclic es kept ys L
same_cycles es kept pushed E placed L ys drawn fits c =
    let n = length es + 8 in
    record {
      kept_fits = c.cyclic.kept_fits;
      pushed_fits = fits;
      cycle = more_cycles es (tabled n kept c.merged) L (tabled n kept ys) L
          (λ a b k. k)
          (λ a b s.
          let y = tells_yes n c.merged s.by b s.pushed in
          let pushes = (c.drawn s.by b y.row y.column).0 y.is_yes in
          record {
            by = s.by;
            earlier = s.earlier;
            pushed = yes_tells n ys s.by b (record { row = y.row; column = y.column; is_yes = (drawn s.by b y.row y.column).1 pushes });
          })
          c.cyclic.cycle;
    }

pub so_far_told : (es : List Event) (kept pushed E placed L ys : List ℕ) (has : Bool) → Fits es pushed → Fits es ys →
    Drawn (Merging (length es + 8) pushed E placed) (length es + 8) ys → Decides has (Cyclic es kept ys L) → Decides has (CyclicSoFar es kept pushed E placed L)
so_far_told es kept pushed E placed L ys has fits-pushed fits drawn d =
    Decides-like has
    (λ c. record { merged = ys; pushed_fits = fits-pushed; drawn = drawn; cyclic = c })
    (same_cycles es kept pushed E placed L ys drawn fits)
    d
