use Rattle.std.proofs.Common.{◌≡◌, ◌-◌, length}
use Rattle.orders.proofs.Totalling.{TotalTo}
use Rattle.orders.proofs.counting.+count_behind.Given as goal

abbrev pub decreases-count_behind : goal.decreases-count_behind
decreases-count_behind l = l.precedence.now.count - l.done

abbrev pub invariant-loop-item : goal.invariant-loop-item
invariant-loop-item l = TotalTo l.precedence l.done l.initial.order l.order l.item l.total × (length l.order ≡ 8)
