use Rattle.measures.specs.Paths.{entry}
use Rattle.measures.proofs.Rounds.{Upto}
use Rattle.measures.proofs.settling.settle.Given as goal

abbrev pub invariant-loop-via : goal.invariant-loop-via
invariant-loop-via g l =
    let m = g.M.Measure in
    Upto m.none m.joined m.better l.side l.via (entry m.means m.none l.side l.initial.cells) (entry m.means m.none l.side l.cells)
