-- The table tells whether there is a way.
use Rattle.axioms.proofs.Sources.{leads_told}
use Rattle.axioms.proofs.source_reach.SourceReach.leads.Goals as goal

pub returns : goal.returns
returns c es reached proper = leads_told es c.args.self.now reached proper c.args.a c.args.b c.says.result c.says.ensures
