use Rattle.std.proofs.Common.{sym, subst, Decides}
use Rattle.axioms.specs.Relations.{Holds}
use Rattle.coherence.proofs.Sighting.{coww_seen}
use Rattle.coherence.proofs.sight.Sight.holds.Goals as goal

pub returns-then-are_rivals : goal.returns-then-are_rivals
returns-then-are_rivals c m L told =
    let es = c.args.self.now.events.now in
    let seen = c.is_visible.ensures m L told in
    subst (λ x. Decides c.is_visible.result (Holds m es L x c.args.p c.args.q c.args.reader c.args.second)) (sym c.in-Coww.is)
    (λ e. (c.are_rivals.ensures.0 c.if-are_rivals.true, (seen.0 e).visible), λ h. seen.1 (coww_seen m es L c.args.p c.args.q c.args.reader h))

pub returns-in-Cowr : goal.returns-in-Cowr
returns-in-Cowr c m L told =
    subst (λ x. Decides c.holds_by_cowr.result (Holds m c.args.self.now.events.now L x c.args.p c.args.q c.args.reader c.args.second)) (sym c.in-Cowr.is)
    (c.holds_by_cowr.ensures m L told)

pub returns-in-Corw : goal.returns-in-Corw
returns-in-Corw c m L told =
    subst (λ x. Decides c.holds_by_corw.result (Holds m c.args.self.now.events.now L x c.args.p c.args.q c.args.reader c.args.second)) (sym c.in-Corw.is)
    (c.holds_by_corw.ensures m L told)
