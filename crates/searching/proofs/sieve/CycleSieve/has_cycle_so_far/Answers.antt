use Rattle.std.proofs.Common.{◌≡◌, ◌+◌, ◌*◌, length, sym, ap, ◌∙◌, subst, arith}
use Rattle.axioms.specs.Tables.{Drawn}
use Rattle.searching.specs.Sieves.{Merging}
use Rattle.searching.proofs.Merging.{merged_none, merged_more, merged_all, so_far_told}
use Rattle.searching.proofs.sieve.CycleSieve.has_cycle_so_far.Goals as goal

pub loop-column-init : goal.loop-column-init
loop-column-init c =
    let s = c.args.self.now in
    merged_none (length s.events.now + 8) s.pushed.now s.pushing.now c.args.placed.now c.in-Ok.pushed c.in-Ok.ensures.side c.in-Ok.ensures.cells

pub has_open_push-requires : goal.has_open_push-requires
has_open_push-requires c = record {
  few = c.requires;
  fits = c.in-Ok.ensures.fits;
  within = omega (arith, c.side-column-end.ensures.value, c.in-Ok.ensures.side);
}

pub loop-column-preserved : goal.loop-column-preserved
loop-column-preserved c =
    let s = c.args.self.now in
    merged_more (length s.events.now + 8) s.pushed.now s.pushing.now c.args.placed.now c.loop-column.pushed c.mark.new.self c.loop-column.column
    c.has_open_push.result (omega (arith, c.side-column-end.ensures.value, c.in-Ok.ensures.side)) c.mark.ensures c.has_open_push.ensures
    c.loop-column.invariant

pub returns : goal.returns
returns c =
    let s = c.args.self.now in
    let n = length s.events.now + 8 in
    let size : length c.cells.result.now ≡ n * n = c.cells.ensures.size ∙ ap (λ k. k * k) c.loop-column.invariant.side in
    so_far_told s.events.now s.kept.now s.pushed.now s.pushing.now c.args.placed.now c.args.list.now c.cells.result.now c.has_cycle.result
    c.in-Ok.ensures.fits (c.in-Ok.ensures.fits.0, size)
    (subst (Drawn (Merging n s.pushed.now s.pushing.now c.args.placed.now) n) (sym c.cells.ensures.value)
    (merged_all n s.pushed.now s.pushing.now c.args.placed.now c.loop-column.pushed c.loop-column.column
    (omega (arith, c.side-column-end.ensures.value, c.in-Ok.ensures.side)) c.loop-column.invariant))
    c.has_cycle.ensures
