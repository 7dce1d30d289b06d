use Rattle.profiles.proofs.Scanning.{met_none}
use Rattle.profiles.proofs.scan.Scan.new.Goals as goal

pub returns : goal.returns
returns c = met_none c.default.result c.default.ensures.0 c.default.ensures.1.0 c.default.ensures.1.1
