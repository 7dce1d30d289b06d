use Rattle.std.proofs.Common.{◌-◌, refl, arith}
use Rattle.orders.proofs.Enumerating.{counted_like}
use Rattle.orders.proofs.Totalling.{at_most_8}
use Rattle.orders.proofs.counting.count_orders.Goals as goal

pub returns : goal.returns
returns c =
    let t = c.count_behind.ensures in
    let small = c.args.precedence.now.small in
    record {
      few = omega (arith, t.few, at_most_8 (c.args.precedence.now.count - 0) (omega arith));
      counted = counted_like c.count_behind.result (λ q h. h.0) (λ q o. (o, refl)) t.counted;
    }
