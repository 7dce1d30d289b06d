use Rattle.judging.proofs.laying.CoherenceNamerNamer.name.Goals as goal

pub unreachable-requires : goal.unreachable-requires
unreachable-requires c = c.in_default.ensures.names c.requires.meaning c.requires.list c.requires.told c.requires.step
