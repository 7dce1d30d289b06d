-- A pair that is not kept is not pushed.
use Rattle.std.proofs.lemmas.Bool.{both_ways}
use Rattle.std.proofs.lemmas.Bool.Decides.{Decides-at}
use Rattle.axioms.proofs.Asking.{pushed_says}
use Rattle.axioms.proofs.Entries.{decides_none}
use Rattle.axioms.proofs.pairs.PushedPairsRelationFamily.holds.Goals as goal

pub returns-else-says : goal.returns-else-says
returns-else-says g c told =
    let s = c.args.self.now in
    Decides-at c.says.result _ c.if-says.false
    (decides_none (λ q. both_ways c.says.result c.if-says.false
    (c.says.ensures.1 (pushed_says (g.P.Profile.meaning s.profile.now) (g.met.P.Profile.lawful s.profile.now) s.events.now c.args.a c.args.b s.kept.now told q))))
