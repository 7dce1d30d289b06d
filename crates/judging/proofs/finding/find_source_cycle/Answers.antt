use Rattle.std.proofs.Common.{◌-◌, take, subst}
use Rattle.cycles.specs.Answers.{CycleOrNone}
use Rattle.axioms.specs.Relations.{SourceStep}
use Rattle.sheets.specs.declared.verdict.Verdict.TheVariants.{SourceCycle}
use Rattle.judging.specs.Laying.{SourceNamed}
use Rattle.judging.proofs.Found.{front_shortest}
use Rattle.judging.proofs.Showing.{laid_least}
use Rattle.judging.proofs.finding.find_source_cycle.Goals as goal

pub returns : goal.returns
returns c m L =
    let es = c.args.events.now in
    let R = SourceStep es in
    let w = subst (CycleOrNone R _ c.source_cycle.new.cycle) (c.in_ok-count.was) c.in-Ok.ensures.1 in
    laid_least (SourceNamed es) (take (c.in_ok-count.count - 0) c.source_cycle.new.cycle) c.lay.result c.lay.ensures
    R m es L SourceCycle (front_shortest R _ _ _ w)
    (λ x n. record { belongs = n.source; holds = n.holds m L; unused = n.unused })
