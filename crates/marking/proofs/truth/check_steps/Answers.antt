use Rattle.std.proofs.Common.{refl, inl}
use Rattle.marking.proofs.Failing.{then_clear}
use Rattle.marking.proofs.truth.check_steps.Goals as goal

pub returns-in-Some : goal.returns-in-Some
returns-in-Some c = λ m L told ts e.
    inl (_, (record { place = c.in-Some.place; first = c.in-Some.ensures.told m L told ts e; told = refl }, refl))

pub returns-in-Clear : goal.returns-in-Clear
returns-in-Clear c = λ m L told ts e.
    then_clear m _ L _ _ (c.in_default.ensures.told m L told ts e) _ c.in-Clear.is c.check_clear.result (c.check_clear.ensures m L told)
