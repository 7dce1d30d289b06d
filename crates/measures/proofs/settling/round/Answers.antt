use Rattle.std.proofs.Common.{◌≡◌, ℕ, ◌+◌, ◌-◌, ◌*◌, List, ◌++◌, length, sym, ap, ◌∙◌, subst, arith}
use Rattle.measures.specs.Paths.{entry}
use Rattle.measures.specs.Rounds.{cell, RowsRelaxed, RoundDone}
use Rattle.measures.proofs.Rows.{round_done}
use Rattle.measures.proofs.settling.round.Goals as goal

pub relax_rows-requires-2-clause-count : goal.relax_rows-requires-2-clause-count
relax_rows-requires-2-clause-count g c =
    let n = c.args.side in
    let k = c.args.via in
    let split : n * n ≡ (k + 1 + (n - k - 1)) * n = ap (λ m. m * n) (omega arith) in
    let long : length c.split_at_mut-onward.result.1.now ≡ (n - k - 1) * n = omega arith in
    long ∙ ap (λ m. (n - k - 1) * m) (sym c.split_at_mut-onward.ensures.front_len)

pub returns : goal.returns
returns g c =
    let m = g.M.Measure in
    let n = c.args.side in
    let front = c.split_at_mut-before.ensures in
    let back = c.split_at_mut-onward.ensures in
    let before = c.split_at_mut-before.result.0.now in
    let onward = c.split_at_mut-onward.result.0.now in
    let behind = c.split_at_mut-onward.result.1.now in
    let before' = c.relax_rows.new.rows in
    let behind' = c.relax_rows-2.new.rows in
    let relaxed_run = λ (w : ℕ) (xs ys : List _). RowsRelaxed m.joined m.better w c.args.via (length xs) (cell m.means m.none xs) (cell m.means m.none onward) (cell m.means m.none ys) in
    let whole : before ++ (onward ++ behind) ≡ c.args.cells.now = ap (λ xs. before ++ xs) (sym back.value) ∙ sym front.value in
    subst (λ xs. RoundDone m.joined m.better n c.args.via (entry m.means m.none n xs) (entry m.means m.none n (before' ++ (onward ++ behind')))) whole
    (round_done m.means m.laws n c.args.via before before' onward behind behind' c.requires.vertex
    front.front_len (omega (arith, front.front_len)) back.front_len (omega (arith, front.back_len, back.back_len, c.requires.square))
    (subst (λ w. relaxed_run w before before') back.front_len c.relax_rows.ensures)
    (subst (λ w. relaxed_run w behind behind') back.front_len c.relax_rows-2.ensures))
