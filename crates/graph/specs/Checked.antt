-- What the checks of a call answer.
--
--   passed o x   the refusal o where there is one, and else x
use Rattle.std.specs.Prelude.{Some, None, Ok, Err, Option, Result}
use Rattle.graph.specs.declared.refusal.Refusal.{Refusal}

abbrev pub passed : {X : Type 0} → Option Refusal → X → Result X Refusal
passed (Some r) x = Err r
passed None x = Ok x
