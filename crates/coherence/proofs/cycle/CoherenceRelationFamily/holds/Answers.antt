use Rattle.coherence.proofs.cycle.CoherenceRelationFamily.holds.Goals as goal

pub returns : goal.returns
returns c k = c.coheres.ensures k.meaning k.list k.told
