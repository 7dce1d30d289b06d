use Rattle.std.proofs.Common.{◌+◌, sym, subst}
use Rattle.std.proofs.lemmas.Bool.Decides.{not_from_Decides}
use Rattle.searching.proofs.Filling.{FilledTo, filled_added, filled_skipped}
use Rattle.searching.proofs.precedence.precedence_of.Goals as goal
use Rattle.searching.proofs.precedence.precedence_of.Goals.{then-leads, else-leads}

pub loop-second-preserved : goal.loop-second-preserved
loop-second-preserved c =
    let t = c.args.reach.now in
    let E = c.args.events.now in
    let u = c.loop-first.first in
    let v = c.loop-second.second in
    let b = c.loop-second.precedence in
    elim c.if-leads.branch [
      | then-leads w ↦
          subst (λ d. FilledTo t E u (v + 1) d) (sym w.precedence-is)
          (filled_added t E u v b c.loop-second.invariant w.add.new.self c.loop-first-test.true c.loop-second-test.true
          (λ es reached proper. (c.leads.ensures es reached proper).0 w.if-leads.true)
          w.add.ensures.count w.add.ensures.added)
      | else-leads w ↦
          subst (λ d. FilledTo t E u (v + 1) d) (sym w.precedence-is)
          (filled_skipped t E u v b c.loop-second.invariant
          (λ es reached proper. not_from_Decides c.leads.result (c.leads.ensures es reached proper) w.if-leads.false))
    ]
