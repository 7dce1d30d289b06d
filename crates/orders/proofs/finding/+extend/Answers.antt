use Rattle.std.proofs.Common.{◌≡◌, ℕ, ◌+◌, ◌<◌, List, length, take, set, sym, ◌∙◌, subst, arith, rules, length-set}
use Rattle.std.proofs.lemmas.Bool.Decides.{not_from_Decides}
use Rattle.orders.specs.Extending.{Lined}
use Rattle.orders.specs.Orders.{Permutation}
use Rattle.orders.proofs.Placing.{Upto, lined_more, upto_tried, upto_barred, found_here, cut, whole}
use Rattle.orders.proofs.finding.+extend.Goals as goal
use Rattle.orders.proofs.finding.+extend.Goals.{then-is_free+else-is_some, else-is_free}

pub returns-then-rejects : goal.returns-then-rejects
returns-then-rejects g t c =
    let b = c.args.precedence.now in
    let fails = c.rejects.ensures.cut c.if-rejects.true in
    cut b (g.S.Sieve.fails c.args.sieve.now) c.args.done c.args.order
    (λ q p a. fails q (subst (λ (n : ℕ). Permutation n q) (sym c.count-count.ensures.value) p) a)

pub returns-then-done-from : goal.returns-then-done-from
returns-then-done-from g t c =
    let b = c.args.precedence.now in
    let passes = c.rejects.ensures.whole c.if-rejects.false in
    whole b (g.S.Sieve.fails c.args.sieve.now) c.args.done c.args.order (omega arith) (omega arith) c.requires.lined
    (λ a. passes (subst (λ (n : ℕ). Permutation n (take c.args.done c.args.order)) (sym c.count-count.ensures.value) a))

pub extend-found-requires : goal.extend-found-requires
extend-found-requires g t c κs within =
    let b = c.args.precedence.now in
    let order = c.loop-item.order in
    let less : c.args.done < b.count = omega arith in
    let room : c.args.done < length order = omega (arith, c.loop-item.invariant.1) in
    let l : Lined b (take c.args.done order) = subst (Lined b) (sym c.loop-item.invariant.0.front) c.requires.lined in
    let more : Lined b (take (c.args.done + 1) (set order c.args.done c.loop-item.item)) =
    lined_more b order c.args.done c.loop-item.item room (omega arith) l (c.is_free.ensures.0 c.if-is_free.true) in
    search rules

pub returns-then-is_some : goal.returns-then-is_some
returns-then-is_some g t c =
    found_here c.args.precedence.now (g.S.Sieve.fails c.args.sieve.now) c.args.done c.args.order c.loop-item.order c.loop-item.item
    (omega arith) (omega (arith, c.loop-item.invariant.1)) c.loop-item.invariant.0 c.extend-found.result (sym c.is_some.ensures ∙ c.if-is_some.true) c.extend-found.ensures

pub loop-item-preserved : goal.loop-item-preserved
loop-item-preserved g t c =
    let b = c.args.precedence.now in
    let F = g.S.Sieve.fails c.args.sieve.now in
    let order = c.loop-item.order in
    let less : c.args.done < b.count = omega arith in
    let room : c.args.done < length order = omega (arith, c.loop-item.invariant.1) in
    let again = λ (o : List ℕ). Upto b F c.args.done c.args.order o (c.loop-item.item + 1) × (length o ≡ 8) in
    elim c.if-is_free.branch [
      | then-is_free+else-is_some w ↦
          subst again (sym w.order-is) (
            upto_tried b F c.args.done c.args.order order c.loop-item.item less room c.loop-item.invariant.0
                w.extend-found.result (sym w.is_some.ensures ∙ w.if-is_some.false) w.extend-found.ensures,
            length-set order c.args.done c.loop-item.item ∙ c.loop-item.invariant.1,
          )
      | else-is_free w ↦
          subst again (sym w.order-is) (
            upto_barred b F c.args.done c.args.order order c.loop-item.item less room c.loop-item.invariant.0
                (not_from_Decides c.is_free.result c.is_free.ensures w.if-is_free.false),
            c.loop-item.invariant.1,
          )
    ]
