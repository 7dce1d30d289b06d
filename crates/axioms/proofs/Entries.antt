-- What an entry of a yes/no table says, and the answer no.
use Rattle.std.proofs.Common.{◌≡◌, ℕ, ◌<◌, Bool, true, false, Decides, refl, ap, ◌∙◌}
use Rattle.std.specs.Int.{from_bool}
use Rattle.std.proofs.lemmas.Bool.Decides.{Decides-at, Decides-like}
use Rattle.std.proofs.lemmas.Bool.{false≢true}
use Rattle.measures.specs.Reach.{yes}
use Rattle.axioms.specs.declared.table.EventTable.{EventTable}
use Rattle.axioms.specs.EventTables.{Says}
use Rattle.axioms.specs.Tables.{Drawn}

-- No is the right answer about what does not hold.
pub decides_none : {P : Type 0} → (P → ⊥) → Decides false P
decides_none no-p = (λ e. absurd (false≢true e), λ p. absurd (no-p p))

-- A bit tells what it was made from.
pub yes_bit : (b : Bool) → yes (from_bool b) ≡ b
yes_bit true = refl
yes_bit false = refl

pub decides_bit : {P : Type 0} (v : ℕ) (b : Bool) → v ≡ from_bool b → Decides b P → Decides (yes v) P
decides_bit v b is = Decides-at (yes v) b (ap yes is ∙ yes_bit b)

-- A table that tells a relation between events says yes of exactly what is related.
pub says_tells : (R : ℕ → ℕ → Type 0) (t : EventTable) → Drawn R t.side t.cells → (a b : ℕ) → (R a b → (a < t.side) × (b < t.side)) →
    (r : Bool) → Decides r (Says t a b) → Decides r (R a b)
says_tells R t drawn a b within r =
    Decides-like r (λ y. (drawn a b y.row y.column).0 y.is_yes)
    (λ h. let w = within h in record { row = w.0; column = w.1; is_yes = (drawn a b w.0 w.1).1 h })
