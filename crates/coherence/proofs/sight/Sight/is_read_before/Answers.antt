use Rattle.std.proofs.Common.{refl, rules}
use borrow.Author.Tests.{tests}
use Rattle.std.proofs.lemmas.Bool.Decides.{Decides-like}
use Rattle.graph.specs.Order.{Po, Rf}
use Rattle.axioms.proofs.Any.{any_among}
use Rattle.coherence.proofs.sight.Sight.is_read_before.Goals as goal

pub returns : goal.returns
returns c =
    let es = c.args.self.now.events.now in
    let p = c.args.p in
    let s = c.args.second in
    Decides-like c.any.result (λ h. (h.0, h.3)) (λ h. let reads = h.1.0.added.0 in let earlier = h.1.1.earlier in (h.0, reads, earlier, h.1))
    (any_among 8 s (λ k. Rf es p k × Po es k s) _ _ c.any.result refl c.any.ensures.ran (λ x t q k. search (rules, tests)))
