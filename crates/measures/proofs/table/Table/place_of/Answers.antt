use Rattle.std.proofs.Common.{refl, arith, rules}
use Rattle.measures.specs.Outcome.{Square}
use Rattle.measures.proofs.Tables.{place_in}
use Rattle.measures.proofs.table.Table.place_of.Goals as goal

pub returns-then-column-self : goal.returns-then-column-self
returns-then-column-self g c =
    let square : Square c.args.self.now.side c.args.self.now.cells.now = search rules in
    let p = place_in c.if-row-self.true c.if-column-self.true in
    ((square, (c.if-row-self.true, c.if-column-self.true)), (refl, omega arith))
