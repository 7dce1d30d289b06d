use Rattle.std.proofs.Common.{◌≡◌, subst, arith}
use Rattle.measures.specs.Paths.{entry}
use Rattle.measures.proofs.Rounds.{Upto, step, finish}
use Rattle.measures.proofs.settling.settle.Goals as goal

pub loop-via-preserved : goal.loop-via-preserved
loop-via-preserved g c =
    let m = g.M.Measure in
    let n = c.args.side in
    step m.laws n c.loop-via.via
    (entry m.means m.none n c.args.cells.now)
    (entry m.means m.none n c.loop-via.cells)
    (entry m.means m.none n c.round.new.cells)
    c.loop-via-test.true
    c.loop-via.invariant
    c.round.ensures.done

pub returns : goal.returns
returns g c =
    let m = g.M.Measure in
    let n = c.args.side in
    let e = entry m.means m.none n c.args.cells.now in
    let t = entry m.means m.none n c.loop-via.cells in
    let all : c.loop-via.via ≡ n = omega arith in
    ((omega arith, omega arith), finish m.laws n e t (subst (λ k. Upto m.none m.joined m.better n k e t) all c.loop-via.invariant))
