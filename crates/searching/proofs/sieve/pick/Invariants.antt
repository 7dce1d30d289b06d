use Rattle.std.proofs.Common.{◌≡◌, ◌-◌, ◌++◌, take, replicate}
use Rattle.searching.specs.Listing.{picked}
use Rattle.searching.proofs.sieve.pick.Given as goal

abbrev pub invariant-loop-place : goal.invariant-loop-place
invariant-loop-place l = l.list ≡ picked l.pushing (take l.place l.placed) ++ replicate (9 - l.place) 0
