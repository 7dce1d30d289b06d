-- Which items stand in a list, and which may stand next.
use Rattle.std.proofs.Common.{ℕ, ◌<◌, ◌≤◌, Bool, true, false, MatchBool, Decides, List, refl, arith}
use Rattle.std.proofs.lemmas.Bool.{false≢true}
use Rattle.orders.specs.Orders.{Precedes, Among, Free}
use Rattle.orders.specs.declared.precedence.Precedence.{Precedence}

module _ (b : Precedence) (p : List ℕ) (x : ℕ) (new : Among p x → ⊥) where
  -- Each item that has to come before x was looked for in p.
  pub free_decides : (r : Bool) →
      MatchBool r ((w : ℕ) → 0 ≤ w → w < b.count → Precedes b w x → Among p w) ((w : ℕ) × (0 ≤ w) × (w < b.count) × (Precedes b w x × (Among p w → ⊥))) →
      Decides r (Free b p x)
  free_decides true h = (λ _. record { new = new; ready = λ w r. h w (omega arith) r.first r }, λ _. refl)
  free_decides false h = (λ e. absurd (false≢true e), λ f. absurd (h.3.1 (f.ready h.0 h.3.0)))
