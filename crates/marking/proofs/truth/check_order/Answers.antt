use Rattle.std.proofs.Common.{refl, inl, inr}
use Rattle.std.proofs.lemmas.Bool.Decides.{not_from_Decides}
use Rattle.marking.proofs.truth.check_order.Goals as goal

pub returns-then-not-is_lawful : goal.returns-then-not-is_lawful
returns-then-not-is_lawful c =
    let reached = c.in-Ok.ensures in
    let unlawful = not_from_Decides _ (c.is_lawful.ensures _ reached c.events.ensures.proper c.requires) c.if-not-is_lawful.true in
    rw (← c.events.ensures.value) (inr (
      λ e h. not_from_Decides _ (c.has_cycle.ensures _ reached) c.if-has_cycle.false h.0,
      inl (_, ((unlawful, c.into-then-not-is_lawful.ensures), refl)),
    ))
