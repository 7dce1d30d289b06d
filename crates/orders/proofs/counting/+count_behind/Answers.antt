use Rattle.std.proofs.Common.{◌≡◌, ℕ, ◌+◌, ◌<◌, ◌≤◌, List, length, take, set, sym, ◌∙◌, subst, arith, rules, length-set}
use Rattle.std.proofs.lemmas.Bool.Decides.{not_from_Decides}
use Rattle.orders.specs.Extending.{Lined}
use Rattle.orders.proofs.Placing.{lined_more}
use Rattle.orders.proofs.Totalling.{TotalTo, total_none, sum_fits, total_tried, total_barred, total_all, counted_whole}
use Rattle.orders.proofs.counting.+count_behind.Goals as goal
use Rattle.orders.proofs.counting.+count_behind.Goals.{then-is_free, else-is_free}

pub returns-then-done-from : goal.returns-then-done-from
returns-then-done-from t c =
    counted_whole c.args.precedence.now c.args.done c.args.order (omega arith) (omega arith) c.requires.lined

pub loop-item-init : goal.loop-item-init
loop-item-init t c = (total_none c.args.precedence.now c.args.done c.args.order (omega arith) c.requires.lined (omega arith), omega arith)

pub count_behind-total-requires : goal.count_behind-total-requires
count_behind-total-requires t c =
    let b = c.args.precedence.now in
    let order = c.loop-item.order in
    let less : c.args.done < b.count = omega arith in
    let room : c.args.done < length order = omega (arith, c.loop-item.invariant.1) in
    let l : Lined b (take c.args.done order) = subst (Lined b) (sym c.loop-item.invariant.0.front) c.requires.lined in
    let more : Lined b (take (c.args.done + 1) (set order c.args.done c.loop-item.item)) =
    lined_more b order c.args.done c.loop-item.item room (omega arith) l (c.is_free.ensures.0 c.if-is_free.true) in
    search rules

pub overflow_add-total : goal.overflow_add-total
overflow_add-total t c =
    let small : c.loop-item.total + c.count_behind-total.result ≤ 40320 =
    sum_fits c.args.precedence.now c.args.done c.args.order (omega arith) c.requires.lined (omega arith) c.loop-item.order c.loop-item.item c.loop-item.total
    (omega arith) c.loop-item.invariant.0 (c.is_free.ensures.0 c.if-is_free.true)
    c.count_behind-total.result c.count_behind-total.ensures.few in
    search rules

pub loop-item-preserved : goal.loop-item-preserved
loop-item-preserved t c =
    let b = c.args.precedence.now in
    let old = c.args.order in
    let order = c.loop-item.order in
    let item = c.loop-item.item in
    let less : c.args.done < b.count = omega arith in
    let room : c.args.done < length order = omega (arith, c.loop-item.invariant.1) in
    let again = λ (o : List ℕ) (k : ℕ). TotalTo b c.args.done old o (item + 1) k × (length o ≡ 8) in
    elim c.if-is_free.branch [
      | then-is_free w ↦
          subst (λ (o : List ℕ). again o c.if-is_free.total) (sym w.order-is)
          (subst (again (set order c.args.done item)) (sym w.total-is) (
            total_tried b c.args.done old less c.requires.lined (omega arith) order item c.loop-item.total (omega arith) c.loop-item.invariant.0
                (c.is_free.ensures.0 w.if-is_free.true) w.count_behind-total.result room w.count_behind-total.ensures,
            length-set order c.args.done item ∙ c.loop-item.invariant.1,
          ))
      | else-is_free w ↦
          subst (λ (o : List ℕ). again o c.if-is_free.total) (sym w.order-is)
          (subst (again order) (sym w.total-is) (
            total_barred b c.args.done old less c.requires.lined (omega arith) order item c.loop-item.total (omega arith) c.loop-item.invariant.0
                (not_from_Decides c.is_free.result c.is_free.ensures w.if-is_free.false),
            c.loop-item.invariant.1,
          ))
    ]

pub returns : goal.returns
returns t c =
    total_all c.args.precedence.now c.args.done c.args.order (omega arith) c.requires.lined (omega arith)
    c.loop-item.order c.loop-item.item c.loop-item.total (omega arith) c.loop-item.invariant.0
