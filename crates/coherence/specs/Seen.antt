-- The visibility of a graph's events under a push order, which owns its table. Throughout, es are the added events, kept and pushed the
-- tables of the kept and the pushed pairs, and L is the list.
--
--   VisibilityOf es kept pushed L v    the tables fit, and that of v too; it tells visibility for every profile that they tell: by `drawn` for every lawful
--                                      one, and by `within` for every meaning within the graph, lawful or not
--   NoVisibility es kept pushed why    a refusal, since a table does not fit
use Rattle.std.specs.Prelude.{◌≡◌, ℕ, ◌+◌, List, length}
use Rattle.measures.specs.declared.settling.Refusal.{Refusal}
use Rattle.measures.specs.declared.settling.Refusal.TheVariants.{NotSquare}
use Rattle.graph.specs.declared.event.Event.{Event}
use Rattle.profiles.specs.Laws.{Lawful}
use Rattle.profiles.specs.Meaning.{Meaning}
use Rattle.axioms.specs.EventTables.{cells_of}
use Rattle.axioms.specs.Relations.{Kept, Pushed}
use Rattle.axioms.specs.Tables.{Drawn}
use Rattle.coherence.specs.declared.visibility.Visibility.{Visibility}
use Rattle.coherence.specs.Visibility.{Fits, Told, Within}

pub record VisibilityOf (es : List Event) (kept pushed L : List ℕ) (v : Visibility) : Type 0 where
  pub events : v.events.now ≡ es
  pub kept_fits : Fits es kept
  pub pushed_fits : Fits es pushed
  pub fits : Fits es (cells_of v.table)
  pub drawn : (m : Meaning) → Lawful m → Drawn (Kept m es) (length es + 8) kept → Drawn (Pushed m es) (length es + 8) pushed → Told m es L (cells_of v.table)
  pub within : (m : Meaning) → Within m es → Drawn (Kept m es) (length es + 8) kept → Drawn (Pushed m es) (length es + 8) pushed → Told m es L (cells_of v.table)

pub record NoVisibility (es : List Event) (kept pushed : List ℕ) (why : Refusal) : Type 0 where
  pub refusal : why ≡ NotSquare
  pub unfit : Fits es kept → Fits es pushed → ⊥
