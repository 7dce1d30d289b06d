use Rattle.std.proofs.Common.{◌-◌, ◌≤◌, take, subst, arith, rules}
use Rattle.cycles.specs.Answers.{CycleOrNone}
use Rattle.cycles.proofs.Carrying.{closed_carries}
use Rattle.coherence.specs.Naming.{Named}
use Rattle.axioms.specs.Relations.{Co}
use Rattle.coherence.specs.Sights.{Throughout}
use Rattle.sheets.specs.declared.verdict.Verdict.TheVariants.{CoherenceCycle}
use Rattle.judging.specs.Laying.{SomeCo}
use Rattle.judging.proofs.Found.{front_long, front_closed, front_shortest}
use Rattle.judging.proofs.Showing.{laid_least}
use Rattle.judging.proofs.finding.find_coherence_cycle.Goals as goal

pub slice_bounds-lay-end : goal.slice_bounds-lay-end
slice_bounds-lay-end c =
    let t = c.requires in
    let es = c.args.sight.now.events.now in
    let w = subst (CycleOrNone (Co t.meaning es t.list) _ c.coherence_cycle.new.cycle) c.in_ok-count.was (c.in-Ok.ensures.answer.1 t.meaning t.list t.told) in
    let room : c.in_ok-count.count ≤ 64 = omega (arith, w.room) in
    search rules

pub lay-requires : goal.lay-requires
lay-requires c =
    let s = c.args.sight.now in
    let t = c.requires in
    let R = Co t.meaning s.events.now t.list in
    let w = subst (CycleOrNone R _ c.coherence_cycle.new.cycle) c.in_ok-count.was (c.in-Ok.ensures.answer.1 t.meaning t.list t.told) in
    record {
      few = omega (arith, front_long R _ _ _ w, w.room);
      closed = closed_carries R (SomeCo s)
          (λ a b co. record { meaning = t.meaning; list = t.list; told = t.told; step = co })
          (take (c.in_ok-count.count - 0) c.coherence_cycle.new.cycle) (front_closed R _ _ _ w);
    }

pub returns : goal.returns
returns c m L told =
    let s = c.args.sight.now in
    let es = s.events.now in
    let R = Co m es L in
    let w = subst (CycleOrNone R _ c.coherence_cycle.new.cycle) c.in_ok-count.was (c.in-Ok.ensures.answer.1 m L told) in
    laid_least (λ p q n. Throughout s (λ xs k l. Named k xs l p q n)) (take (c.in_ok-count.count - 0) c.coherence_cycle.new.cycle) c.lay.result c.lay.ensures
    R m es L CoherenceCycle (front_shortest R _ _ _ w)
    (λ x n. let d = n m L told in record { belongs = d.coherence; holds = d.holds; unused = d.unused })
