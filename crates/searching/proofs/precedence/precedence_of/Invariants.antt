use Rattle.searching.proofs.Filling.{FilledTo}
use Rattle.searching.proofs.precedence.precedence_of.Given as goal

abbrev pub invariant-loop-first : goal.invariant-loop-first
invariant-loop-first l = FilledTo l.reach l.events l.first 0 l.precedence

abbrev pub invariant-loop-second : goal.invariant-loop-second
invariant-loop-second l = FilledTo l.reach l.events l.first l.second l.precedence
