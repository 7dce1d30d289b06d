use Rattle.std.proofs.Common.{refl, rules}
use borrow.Author.Tests.{tests}
use Rattle.std.proofs.lemmas.Bool.Decides.{not_from_Decides}
use Rattle.axioms.proofs.Any.{any_among}
use Rattle.coherence.specs.Coherence.{Shows}
use Rattle.coherence.proofs.Cohering.{by_coww, shows_told}
use Rattle.coherence.proofs.sight.Sight.coheres.Goals as goal

pub returns-then-is_visible : goal.returns-then-is_visible
returns-then-is_visible c m L told = (
  λ _. by_coww m c.args.self.now.events.now L c.args.p c.args.q (c.are_rivals.ensures.0 c.if-not-are_rivals.false) ((c.is_visible.ensures m L told).0 c.if-is_visible.true),
  λ _. refl,
)

pub returns : goal.returns
returns c m L told =
    let es = c.args.self.now.events.now in
    let p = c.args.p in
    let q = c.args.q in
    shows_told m es L p q (c.are_rivals.ensures.0 c.if-not-are_rivals.false)
    (not_from_Decides c.is_visible.result (c.is_visible.ensures m L told) c.if-is_visible.false)
    c.in-Ok.side c.in-Ok.ensures.0 c.any.result
    (any_among 8 c.in-Ok.side (Shows m es L p q) _ _ c.any.result refl c.any.ensures.ran
    (λ x t q k. search (rules, tests)))
