use Rattle.tso.specs.TsoLaws.{rules_stand}
use Rattle.tso.proofs.rules_stand.Goals as goal

pub returns : goal.returns
returns c = rules_stand
