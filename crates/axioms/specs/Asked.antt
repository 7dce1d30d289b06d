-- What a profile was asked for.
--
--   Asked m es p     the tables p tell the kept and the pushed pairs of a profile that means m, among the added events
--                    es and the initial writes
--   AskedOf p P      P holds of every m and es that the tables p tell so
--   TooMany es why   a refusal, since es are more than 56 events; it stands in Tables, and is passed on here
use Rattle.std.specs.Prelude.{◌≡◌, ◌+◌, List, length}
use Rattle.graph.specs.declared.event.Event.{Event}
use Rattle.profiles.specs.Meaning.{Meaning}
use Rattle.profiles.specs.Laws.{Lawful}
use Rattle.axioms.specs.Relations.{Kept, Pushed}
use Rattle.axioms.specs.Tables.{Drawn}
pub use Rattle.axioms.specs.Tables.{TooMany}
use Rattle.axioms.specs.declared.pairs.Pairs.{Pairs}

pub record Asked (m : Meaning) (es : List Event) (p : Pairs) : Type 0 where
  pub lawful : Lawful m
  pub side : p.kept.side ≡ length es + 8
  pub kept : Drawn (Kept m es) p.kept.side p.kept.cells
  pub pushed : Drawn (Pushed m es) p.pushed.side p.pushed.cells

abbrev pub AskedOf : Pairs → (Meaning → List Event → Type 0) → Type 0
AskedOf p P = (m : Meaning) (es : List Event) → Asked m es p → P m es
