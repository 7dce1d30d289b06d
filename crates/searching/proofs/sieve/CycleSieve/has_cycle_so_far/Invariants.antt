use Rattle.std.proofs.Common.{◌+◌, length}
use Rattle.searching.proofs.Merging.{MergedTo}
use Rattle.searching.proofs.sieve.CycleSieve.has_cycle_so_far.Given as goal

abbrev pub invariant-loop-column : goal.invariant-loop-column
invariant-loop-column l = MergedTo (length l.self.events.now + 8) l.self.pushed.now l.self.pushing.now l.placed l.pushed l.column
