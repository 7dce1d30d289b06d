use Rattle.std.proofs.Common.{refl, inl}
use Rattle.std.proofs.lemmas.Bool.Decides.{not_from_Decides}
use Rattle.marking.proofs.truth.check_clear.Goals as goal

pub returns-then-has_cycle : goal.returns-then-has_cycle
returns-then-has_cycle c = λ m L told.
    inl (_, (((c.in-Ok.ensures.1 m L told).0 c.if-has_cycle.true, c.into.ensures), refl))

pub returns : goal.returns
returns c = λ m L told. not_from_Decides _ (c.in-Ok.ensures.1 m L told) c.if-has_cycle.false
