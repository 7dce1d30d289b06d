-- Each table tells its pairs.
use Rattle.axioms.proofs.pairs.Pairs.ask.Goals as goal

pub returns : goal.returns
returns g c =
    let kept = c.in_ok-kept.ensures in
    record {
      lawful = g.met.P.Profile.lawful c.args.profile.now;
      side = kept.side;
      kept = kept.drawn tt;
      pushed = c.in_ok-pushed.ensures.drawn kept;
    }
