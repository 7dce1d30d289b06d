use Rattle.profiles.proofs.Lasts.{lasting}
use Rattle.profiles.proofs.profile.answers_last.Goals as goal

pub returns : goal.returns
returns g c = let p = c.args.profile.now in lasting (g.P.Profile.meaning p) (g.met.P.Profile.lawful p)
