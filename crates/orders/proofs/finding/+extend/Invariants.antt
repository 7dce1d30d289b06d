use Rattle.std.proofs.Common.{◌≡◌, ◌-◌, length}
use Rattle.orders.proofs.Placing.{Upto}
use Rattle.orders.proofs.finding.+extend.Given as goal

abbrev pub decreases-extend : goal.decreases-extend
decreases-extend g l = l.precedence.now.count - l.done

abbrev pub invariant-loop-item : goal.invariant-loop-item
invariant-loop-item g l =
    Upto l.precedence (g.S.Sieve.fails l.sieve) l.done l.initial.order l.order l.item × (length l.order ≡ 8)
