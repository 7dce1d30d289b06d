use Rattle.std.proofs.Common.{◌≡◌, ℕ, ◌*◌, List, length, subst, arith}
use Rattle.axioms.specs.Relations.{Kept, Pushed, CoherenceCycle}
use Rattle.axioms.specs.Tables.{Drawn}
use Rattle.coherence.specs.Visibility.{Fits}
use Rattle.searching.specs.Listing.{picked}
use Rattle.searching.specs.Sieves.{Fails}
use Rattle.searching.proofs.Choosing.{found_like}
use Rattle.searching.proofs.Tabled.{to_tabled, from_tabled}
use Rattle.searching.proofs.search.find_good.Goals as goal

pub returns : goal.returns
returns c m asked =
    let es = c.args.events.now in
    let E = c.args.pushing.now in
    let b = c.args.precedence.now in
    let kept = c.kept.result.now in
    let pushed = c.pushed.result.now in
    let fits : (xs : List ℕ) → length xs ≡ c.args.pairs.now.kept.side * c.args.pairs.now.kept.side → Fits es xs = λ xs size.
    (omega (arith, asked.side, c.args.pairs.now.kept.small), subst (λ n. length xs ≡ n * n) asked.side size) in
    let is-kept = subst (λ n. Drawn (Kept m es) n kept) asked.side (c.kept.ensures.told m es asked) in
    let is-pushed = subst (λ n. Drawn (Pushed m es) n pushed) asked.side (c.pushed.ensures.told m es asked) in
    found_like b (Fails es kept pushed E) (λ q. CoherenceCycle m es (picked E q))
    (λ q o f. from_tabled es m asked.lawful kept pushed is-kept is-pushed (picked E q) f.cyclic.cycle)
    (λ q o cycle.
    let whole = o.permutation.whole in
    let few = b.small in
    record {
      whole = omega (arith, c.requires);
      few = omega arith;
      cyclic = record {
        kept_fits = fits kept c.kept.ensures.size;
        pushed_fits = fits pushed c.pushed.ensures.size;
        cycle = to_tabled es m asked.lawful kept pushed is-kept is-pushed (picked E q) cycle;
      };
    })
    c.find_order.result c.find_order.ensures
