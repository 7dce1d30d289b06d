use Rattle.std.proofs.Common.{◌≡◌, ◌+◌, ◌*◌, ◌≤◌, length, subst, mul-le-mul, arith, rules}
use Rattle.measures.specs.Outcome.{Square}
use Rattle.cycles.specs.Answers.{CycleTest}
use Rattle.coherence.proofs.CoherenceCycles.{test_answer}
use Rattle.coherence.proofs.sight.Sight.has_coherence_cycle.Goals as goal

pub slice_bounds-table-end : goal.slice_bounds-table-end
slice_bounds-table-end c =
    let n = c.in_ok-side.side in
    let h : n * n ≤ 4096 = mul-le-mul c.in_ok-side.ensures.1 c.in_ok-side.ensures.1 in
    search rules

pub returns : goal.returns
returns c =
    let s = c.args.self.now in
    let n = length s.events.now + 8 in
    let xs = c.draw_coherence.new.cells in
    let side = c.in_ok-side.ensures in
    let drawn = c.in_ok-draw_coherence.ensures in
    let long : length xs ≡ n * n = omega (arith, c.draw_coherence.auto.cells, drawn.0.1) in
    test_answer s xs c.has_cycle.new.cells c.has_cycle.result
    (subst (λ k. Square k s.leads.now) side.0 c.in_ok-check_square.ensures)
    (drawn.0.0, long)
    drawn.1
    (subst (λ k. CycleTest k xs c.has_cycle.new.cells c.has_cycle.result) side.0 c.has_cycle.ensures)
