use Rattle.std.proofs.Common.{◌≡◌, ◌++◌, take, drop}
use Rattle.searching.specs.Listing.{picked}
use Rattle.searching.proofs.search.write_order.Given as goal

abbrev pub invariant-loop-place : goal.invariant-loop-place
invariant-loop-place l = l.buffer ≡ picked l.pushing (take l.place l.order) ++ drop l.place l.initial.buffer
