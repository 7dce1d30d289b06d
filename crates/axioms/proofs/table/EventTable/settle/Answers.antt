-- The front of the cells is settled.
use Rattle.std.proofs.Common.{◌≡◌, ◌*◌, ◌-◌, refl, ◌∙◌, arith}
use Rattle.axioms.proofs.Fronts.{longer_front, front_reach}
use Rattle.axioms.proofs.table.EventTable.settle.Goals as goal

pub returns : goal.returns
returns c =
    let n = c.args.self.now.side in
    let all : n * n - 0 ≡ n * n = omega arith in
    let done = c.in-Ok.ensures in
    record {
      side = refl;
      square = longer_front (n * n) c.settle_reach.new.cells _ (c.settle_reach.auto.cells ∙ done.0.1);
      reach = front_reach n (n * n - 0) c.args.self.now.cells c.settle_reach.new.cells _ _ all refl (c.settle_reach.auto.cells ∙ done.0.1) done.1;
    }
