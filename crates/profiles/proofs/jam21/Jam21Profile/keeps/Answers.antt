use Rattle.std.proofs.lemmas.Bool.Decides.{Decides-at}
use Rattle.profiles.proofs.jam21.Jam21Profile.keeps.Goals as goal

pub returns-clause-rules : goal.returns-clause-rules
returns-clause-rules c = Decides-at _ _ c.keeps.ensures c.of.ensures.kept.holds
