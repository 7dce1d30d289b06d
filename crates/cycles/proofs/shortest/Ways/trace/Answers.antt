use Rattle.std.proofs.Common.{◌≡◌, ℕ, ◌-◌, ◌<◌, ◌≤◌, List, length, drop, set, ◌∙◌, arith, length-set, length-drop}
use Rattle.std.proofs.lemmas.List.{length-take-le}
use borrow.Rule.Slice.PartMut.{mid_of}
use Rattle.measures.specs.Outcome.{Square}
use Rattle.measures.specs.Walks.{at, Yes}
use Rattle.cycles.specs.Distances.{Distances}
use Rattle.cycles.proofs.Found.{nearer, last_step, some_steps}
use Rattle.cycles.proofs.Trailing.{trail_more, trail_end}
use Rattle.cycles.proofs.shortest.Ways.trace.Goals as goal

-- A vertex is some steps from itself.
some : (n : ℕ) (xs ys : List ℕ) → Square n xs → Distances (Yes n xs) n ys → (s : ℕ) → s < n → 0 < at n ys s s
some n xs ys square d s p = some_steps (Yes n xs) n (λ a b r. (r.row, r.column)) ys square.0 d s s p p

-- There is room between the first vertex and the return to it.
long : (old : List ℕ) (s k : ℕ) → length old ≡ 64 → 0 < k → k ≤ 64 → length (mid_of 1 (k - 1) (set old 0 s)) ≡ k - 1
long old s k h some small =
    let all = length-set old 0 s in
    length-take-le (k - 1) (drop 1 (set old 0 s)) (omega (arith, length-drop 1 (set old 0 s)))

pub onward-at-requires : goal.onward-at-requires
onward-at-requires c =
    let n = c.args.self.now.side in
    let xs = c.args.self.now.steps.now in
    let t = c.loop-done.invariant in
    let left = t.left in
    let one = some n xs c.args.self.now.counts.now c.args.self.now.square c.requires.measured c.args.start c.requires.start in
    let room = long c.args.cycle.now c.args.start c.from-count.result c.told-cycle (omega arith) (omega arith) in
    let below : c.loop-done.done < c.from-count.result - 1 = omega arith in
    record {
      from = t.below;
      to = c.requires.start;
      there =
          nearer (Yes n xs) n (λ a b r. (r.row, r.column)) c.args.self.now.counts.now c.args.self.now.square.0 c.requires.measured
          c.loop-done.at c.args.start (c.from-count.result - 1 - c.loop-done.done)
          t.below c.requires.start (omega arith) (omega arith) (omega arith);
    }

pub loop-done-preserved : goal.loop-done-preserved
loop-done-preserved c =
    let n = c.args.self.now.side in
    let on = c.onward-at.ensures in
    let left = c.loop-done.invariant.left in
    let one = some n c.args.self.now.steps.now c.args.self.now.counts.now c.args.self.now.square c.requires.measured c.args.start c.requires.start in
    let room = long c.args.cycle.now c.args.start c.from-count.result c.told-cycle (omega arith) (omega arith) in
    let below : c.loop-done.done < c.from-count.result - 1 = omega arith in
    trail_more (Yes n c.args.self.now.steps.now) n c.args.self.now.counts.now c.args.start c.from-count.result _ c.loop-done.between c.loop-done.done
    c.loop-done.at c.onward-at.result c.loop-done.invariant (omega arith) on.step.column
    (record {
      step = on.step;
      nearer = omega (arith, on.nearer);
      lowest = λ u r e. on.lowest u r (e ∙ on.nearer);
    })

pub returns : goal.returns
returns c =
    let n = c.args.self.now.side in
    let xs = c.args.self.now.steps.now in
    let ys = c.args.self.now.counts.now in
    let t = c.loop-done.invariant in
    let left = t.left in
    let one = some n xs ys c.args.self.now.square c.requires.measured c.args.start c.requires.start in
    let room = long c.args.cycle.now c.args.start c.from-count.result c.told-cycle (omega arith) (omega arith) in
    let all : c.loop-done.done ≡ c.from-count.result - 1 = omega arith in
    record {
      count = c.from-count.ensures ∙ c.count.ensures;
      traced =
          trail_end (Yes n xs) n ys c.args.start c.from-count.result c.args.cycle.now _ c.loop-done.between c.loop-done.done c.loop-done.at t
          (omega arith) (omega arith) (omega arith)
          (last_step (Yes n xs) n (λ a b r. (r.row, r.column)) ys c.args.self.now.square.0 c.requires.measured c.loop-done.at c.args.start t.below c.requires.start (omega arith));
    }
