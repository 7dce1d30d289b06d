use Rattle.searching.proofs.Tabled.{answered_told}
use Rattle.searching.proofs.sieve.has_cycle.Goals as goal

pub returns : goal.returns
returns c =
    rw c.unwrap_or.ensures
    (answered_told c.args.events.now c.args.kept.now c.args.pushed.now c.args.list.now c.in-Ok.visibility c.sight.result c.has_coherence_cycle.result
    c.in-Ok.ensures c.sight.ensures.events c.sight.ensures.leads c.has_coherence_cycle.ensures)
