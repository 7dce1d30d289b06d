use Rattle.std.proofs.Common.{◌≤◌, length, subst, arith}
use Rattle.std.proofs.lemmas.List.{length-take}
use Rattle.graph.specs.Holds.{added_events}
use Rattle.sheets.specs.Written.{Written}
use Rattle.judging.proofs.Writing.{found_written}
use Rattle.judging.proofs.judging.judge.Goals as goal

pub returns : goal.returns
returns g c =
    let m = g.P.Profile.meaning c.args.profile.now in
    let graph = c.args.graph.now in
    let few : length (added_events graph) ≤ 56 = omega (arith, length-take graph.count graph.events.now, graph.within) in
    let found = c.in_ok-verdict.field-0 in
    found_written m (g.met.P.Profile.lawful c.args.profile.now) (added_events graph) few c.args.list.now c.args.buffer.now c.write_sheet.new.buffer
    c.if-buffer-lt-LEAST_BUFFER.false found c.in_ok-verdict.ensures c.write_sheet.result
    (subst (λ ss. Written (record { verdict = found.verdict; order = c.args.list.now; steps = ss }) c.args.buffer.now c.write_sheet.new.buffer c.write_sheet.result)
    c.as_slice.ensures c.write_sheet.ensures)
