use Rattle.std.proofs.Common.{◌≡◌, ℕ, ◌+◌, ◌-◌, length, take, Decides, subst, ◌∙◌, arith}
use Rattle.searching.specs.Sieves.{CyclicSoFar}
use Rattle.searching.proofs.Cutting.{open_rejecting}
use Rattle.searching.proofs.sieve.CycleSieveSieve.rejects.Goals as goal

pub returns : goal.returns
returns c =
    let s = c.args.self.now in
    let placed = c.args.placed.now in
    let list = c.in-Some.list in
    let front : length placed + 1 - 0 ≡ length placed + 1 = omega arith in
    let told : Decides c.has_cycle_so_far.result (CyclicSoFar s.events.now s.kept.now s.pushed.now s.pushing.now placed (take (length placed + 1 - 0) list)) = c.has_cycle_so_far.ensures in
    let r = open_rejecting s.events.now s.kept.now s.pushed.now s.pushing.now placed list c.args.count c.has_cycle_so_far.result
    c.if-count-gt-MOST_ITEMS.false (c.if-self-whole.false ∙ c.from-whole.ensures) c.in-Some.ensures (omega arith)
    (subst (λ (k : ℕ). Decides c.has_cycle_so_far.result (CyclicSoFar s.events.now s.kept.now s.pushed.now s.pushing.now placed (take k list))) front told) in
    record { cut = r.cut; whole = r.whole }
