-- What one write, one row and one round make of a table.
use Rattle.std.proofs.Common.{◌≡◌, ℕ, ◌+◌, ◌-◌, ◌*◌, ◌<◌, ◌≤◌, ◌⊎◌, List, ◌++◌, length, take, drop, get_or, set, refl, sym, ap, ◌∙◌, subst, inl, inr, mul-le-mul, arith, length-drop}
use Rattle.std.proofs.lemmas.Bool.{cases_lt, cases_order}
use Rattle.std.proofs.lemmas.List.{length-take-le}
use borrow.Rule.Slice.PartMut.{mid_of, post_of, put_mid}
use Rattle.measures.specs.Laws.{Laws}
use Rattle.measures.specs.Paths.{entry}
use Rattle.measures.specs.Rounds.{cell, relaxed, RowRelaxed, RowsRelaxed, RoundDone}
use Rattle.measures.proofs.Rounds.{row_stays}
use Rattle.measures.proofs.Tables.{cell_read, cell_set_same, cell_set_other, cell_left, cell_right, cell_front, cell_part, cell_after}

module _ {V W : Type 0} (means : V → W) {none here : W} {joined better : W → W → W} (laws : Laws none here joined better) where
  -- The first j values of a row are written, and the others are as they were.
  pub record RowTo (there : W) (old on new : List V) (j : ℕ) : Type 0 where
    pub done : RowRelaxed joined better j there (cell means none old) (cell means none on) (cell means none new)
    pub rest : (k : ℕ) → j ≤ k → cell means none new k ≡ cell means none old k

  pub row_more : (there : W) (old on now : List V) (j : ℕ) (was step made : V) → j < length now → j < length on →
      was ≡ get_or now j was → step ≡ get_or on j step → means made ≡ better (means was) (joined there (means step)) →
      RowTo there old on now j → RowTo there old on (set now j made) (j + 1)
  row_more there old on now j was step made in_row in_on is-was is-step is-made t = record {
    done = record {
      done = λ k h. elim (cases_lt k j) [
        | inl l ↦ cell_set_other means none now j k made (omega arith) ∙ t.done.done k l
        | inr l ↦
            let same : j ≡ k = omega arith in
            let put = cell_set_same means none now j made in_row in
            let before = cell_read means none now j was in_row is-was in
            let on_j = cell_read means none on j step in_on is-step in
            let kept = t.rest j (omega arith) in
            subst (λ i. cell means none (set now j made) i ≡ better (cell means none old i) (joined there (cell means none on i))) same cc
      ];
    };
    rest = λ k h. cell_set_other means none now j k made (omega arith) ∙ t.rest k (omega arith);
  }

  -- A row whose way to the vertex is none is relaxed as it stands.
  pub row_cut_off : (count : ℕ) (there : W) (old on : ℕ → W) → there ≡ none → RowRelaxed joined better count there old on old
  row_cut_off count there old on cut = record { done = λ j h. cc (laws.none_joined (on j), laws.better_none (old j)) }

  -- The rows before row a are relaxed, and the others are as they were.
  pub record RowsTo (n k : ℕ) (old on now : List V) (a : ℕ) : Type 0 where
    pub done : RowsRelaxed joined better n k (a * n) (cell means none old) (cell means none on) (cell means none now)
    pub rest : (j : ℕ) → a * n ≤ j → cell means none now j ≡ cell means none old j

  module _ (n k a : ℕ) (kn : k < n) (old on now : List V) (so_far : RowsTo n k old on now a) where
    rows_step : (now' : List V) → ((j : ℕ) → ((j < a * n) ⊎ ((a + 1) * n ≤ j)) → cell means none now' j ≡ cell means none now j) →
        ((b : ℕ) → b < n → cell means none now' (a * n + b) ≡ better (cell means none now (a * n + b)) (joined (cell means none now (a * n + k)) (cell means none on b))) →
        RowsTo n k old on now' (a + 1)
    rows_step now' others here = record {
      done = record { done = go };
      rest = λ j h. others j (inr h) ∙ so_far.rest j (omega arith);
    }
      where
        go : (i b : ℕ) → (i + 1) * n ≤ (a + 1) * n → b < n →
            cell means none now' (i * n + b) ≡ better (cell means none old (i * n + b)) (joined (cell means none old (i * n + k)) (cell means none on b))
        go i b h q =
            elim (cases_order i a) [
              | inl e ↦
                  let made = here b q in
                  let was = so_far.rest (a * n + b) (omega arith) in
                  let was_k = so_far.rest (a * n + k) (omega arith) in
                  subst (λ m. cell means none now' (m * n + b) ≡ better (cell means none old (m * n + b)) (joined (cell means none old (m * n + k)) (cell means none on b))) (sym e) cc
              | inr o ↦ elim o [
                | inl l ↦
                    let up : (i + 1) * n ≤ a * n = mul-le-mul (omega arith) (omega arith) in
                    others (i * n + b) (inl (omega arith)) ∙ so_far.done.done i b up q
                | inr l ↦ let up : (a + 2) * n ≤ (i + 1) * n = mul-le-mul (omega arith) (omega arith) in absurd (omega arith)
              ]
            ]

    pub rows_written : (w count : ℕ) (row : List V) (there : V) → w ≡ n → length row ≡ w → w ≤ count → (a + 1) * n ≤ length now → there ≡ get_or (mid_of (a * n) w now) k there →
        RowRelaxed joined better count (means there) (cell means none (mid_of (a * n) w now)) (cell means none on) (cell means none row) →
        RowsTo n k old on (put_mid (a * n) w now row) (a + 1)
    rows_written w count row there wide wide' all fits is-there made =
        let p = a * n in
        let long : length (take p now) ≡ p = length-take-le p now (omega arith) in
        let rest = row ++ post_of p w now in
        rows_step (put_mid p w now row)
        (λ j o. elim o [
          | inl l ↦ cell_left means none (take p now) rest j (omega arith) ∙ cell_front means none now p j l
          | inr l ↦
              cell_right means none (take p now) rest p j (w + (j - (p + w))) long (omega arith)
              ∙ cell_right means none row (post_of p w now) w (w + (j - (p + w))) (j - (p + w)) wide' refl
              ∙ cell_after means none now p w (j - (p + w))
              ∙ ap (cell means none now) (omega arith)
        ])
        (λ b q.
        let new = cell_right means none (take p now) rest p (p + b) b long refl ∙ cell_left means none row (post_of p w now) b (omega arith) in
        let one = made.done b (omega arith) in
        let old_b = cell_part means none now p w b (omega arith) in
        let old_k = cell_part means none now p w k (omega arith) in
        let is = cell_read means none (mid_of p w now) k there (omega (arith, length-take-le w (drop p now) (omega (arith, length-drop p now)))) is-there in
        cc)

  -- The rows before the vertex k and those behind it, with its own row between them, which stays.
  module _ (n k : ℕ) (before before' onward behind behind' : List V) (kn : k < n)
      (front : length before ≡ k * n)
      (front' : length before' ≡ k * n)
      (wide : length onward ≡ n)
      (back : length behind + (k + 1) * n ≡ n * n)
      (first : RowsRelaxed joined better n k (length before) (cell means none before) (cell means none onward) (cell means none before'))
      (then : RowsRelaxed joined better n k (length behind) (cell means none behind) (cell means none onward) (cell means none behind'))
    where
      pub round_done : RoundDone joined better n k (entry means none n (before ++ (onward ++ behind))) (entry means none n (before' ++ (onward ++ behind')))
      round_done = record { done = go } where
        old : ℕ → ℕ → W
        old = entry means none n (before ++ (onward ++ behind))

        new : ℕ → ℕ → W
        new = entry means none n (before' ++ (onward ++ behind'))

        on_old : (b : ℕ) → b < n → old k b ≡ cell means none onward b
        on_old b q =
            cell_right means none before (onward ++ behind) (k * n) (k * n + b) b front (omega arith) ∙ cell_left means none onward behind b (omega arith)

        on_new : (b : ℕ) → b < n → new k b ≡ cell means none onward b
        on_new b q =
            cell_right means none before' (onward ++ behind') (k * n) (k * n + b) b front' (omega arith) ∙ cell_left means none onward behind' b (omega arith)

        in_front : (a b : ℕ) → a < k → b < n → new a b ≡ relaxed joined better old k a b
        in_front a b l q =
            let up : (a + 1) * n ≤ k * n = mul-le-mul (omega arith) (omega arith) in
            let made = first.done a b (omega arith) q in
            let is_new = cell_left means none before' (onward ++ behind') (a * n + b) (omega arith) in
            let is_old = cell_left means none before (onward ++ behind) (a * n + b) (omega arith) in
            let is_old_k = cell_left means none before (onward ++ behind) (a * n + k) (omega arith) in
            let on = on_old b q in
            cc

        at_back : (a b d : ℕ) → a ≡ k + 1 + d → a < n → b < n → new a b ≡ relaxed joined better old k a b
        at_back a b d e p q =
            let up : (k + 1 + d + 1) * n ≤ n * n = mul-le-mul (omega arith) (omega arith) in
            let at : a * n ≡ k * n + n + d * n = ap (λ m. m * n) e ∙ omega arith in
            let behind_at : (xs ys : List V) (j : ℕ) → length xs ≡ k * n → cell means none (xs ++ (onward ++ ys)) (a * n + j) ≡ cell means none ys (d * n + j) =
            λ xs ys j long.
            cell_right means none xs (onward ++ ys) (k * n) (a * n + j) (n + (d * n + j)) long (omega arith)
            ∙ cell_right means none onward ys n (n + (d * n + j)) (d * n + j) wide (omega arith) in
            let made = then.done d b (omega arith) q in
            let is_new = behind_at before' behind' b front' in
            let is_old = behind_at before behind b front in
            let is_old_k = behind_at before behind k front in
            let on = on_old b q in
            cc

        go : (a b : ℕ) → a < n → b < n → new a b ≡ relaxed joined better old k a b
        go a b p q =
            elim (cases_order a k) [
              | inl e ↦ subst (λ c. new c b ≡ relaxed joined better old k c b) (sym e) (on_new b q ∙ sym (on_old b q) ∙ sym (row_stays laws old k b))
              | inr o ↦ elim o [
                | inl l ↦ in_front a b l q
                | inr l ↦ at_back a b (a - (k + 1)) (omega arith) p q
              ]
            ]
