use Rattle.profiles.proofs.Scanning.{summed}
use Rattle.profiles.proofs.scan.Summary.of.Goals as goal

pub returns : goal.returns
returns c =
    let p = c.precedes.ensures.0 c.if-not-precedes.false in
    (p, summed c.args.events.now c.args.a c.args.b p _ _ c.in_ok-event_at.ensures c.in_ok-last.ensures _ c.part_between.ensures _ c.of_thread.ensures)
