use Rattle.std.proofs.Common.{refl, sym}
use Rattle.measures.specs.Outcome.{Square}
use Rattle.measures.specs.Walks.{Yes}
use Rattle.cycles.proofs.Found.{wrote, no_cycle}
use Rattle.cycles.proofs.Measuring.{distances}
use Rattle.cycles.proofs.shortest.shortest_cycle.Goals as goal

pub returns-in_default : goal.returns-in_default
returns-in_default c =
    let n = c.args.side in
    let xs = c.args.steps.now in
    let ys = c.settle_steps.new.cells in
    let square : Square n xs = c.in_ok-check_square.ensures in
    let d = distances n xs c.mark.new.counts square.1 c.mark.ensures ys c.in_ok-settle_steps.ensures.1 in
    (square, (no_cycle (Yes n xs) n (λ a b r. (r.row, r.column)) ys square.0 d c.in_default.ensures, refl))

pub trace-requires-clause-measured : goal.trace-requires-clause-measured
trace-requires-clause-measured c =
    distances c.args.side c.args.steps.now c.mark.new.counts c.in_ok-check_square.ensures.1 c.mark.ensures c.settle_steps.new.cells c.in_ok-settle_steps.ensures.1

pub returns : goal.returns
returns c =
    let n = c.args.side in
    let xs = c.args.steps.now in
    let ys = c.settle_steps.new.cells in
    let square : Square n xs = c.in_ok-check_square.ensures in
    let d = distances n xs c.mark.new.counts square.1 c.mark.ensures ys c.in_ok-settle_steps.ensures.1 in (
      square,
      wrote (Yes n xs) n (λ a b r. (r.row, r.column)) ys square.0 d
          c.in-Some.start c.trace.result c.args.cycle.now c.trace.new.cycle
          c.in-Some.ensures (sym c.trace.ensures.count) c.trace.ensures.traced,
    )
