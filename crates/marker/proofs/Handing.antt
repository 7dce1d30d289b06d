-- What judging writes ends within its buffer, and a graph's events are proper.
use Rattle.std.proofs.Common.{◌≡◌, ℕ, ◌-◌, ◌≤◌, List, length, take, drop, Some, None, Ok, Err, Option, Result, sym, ap, subst, arith, length-append}
use mathlib.Core.Logic.{∥∥₁_elim}
use Rattle.graph.specs.declared.event.Event.{Event}
use Rattle.graph.specs.declared.graph.Graph.{Graph}
use Rattle.graph.specs.declared.refusal.Refused.{Refused}
use Rattle.graph.specs.Holds.{added_events}
use Rattle.graph.specs.Proper.{Proper}
use Rattle.graph.proofs.Fitting.{proper_prop, now_proper}
use Rattle.profiles.specs.Meaning.{Meaning}
use Rattle.sheets.specs.Sheets.{encode}
use Rattle.judging.specs.Judging.{Judges}
use Rattle.marking.specs.Marking.{Marks}
use Rattle.marker.specs.Promise.{OwnMarked}

pub graph_proper : (g : Graph) → Proper (added_events g)
graph_proper g = ∥∥₁_elim g.told (proper_prop (added_events g)) (λ t. subst Proper t.1.0.events (now_proper t.0 t.1.1))

module _ (m : Meaning) (es : List Event) (L old new : List ℕ) where
  pub wrote_within : (r : Result ℕ Refused) (n : ℕ) → r ≡ Ok n → Judges m es L old new r → n ≤ length new
  wrote_within r n is judges =
      let w = subst (Judges m es L old new) is judges in
      omega (arith, ap length w.front, length-append (encode w.sheet) (drop n old), w.told)

pub own_read : (m : Meaning) (es : List Event) (sheet : List ℕ) (r : Result ℕ Refused) (n : ℕ) → r ≡ Ok n → (x : Result (Unit {0}) Refused) →
    Marks m es (take (n - 0) sheet) x → (w : Option (Result (Unit {0}) Refused)) → w ≡ Some x → OwnMarked m es sheet r w
own_read m es sheet r n is x marks w told =
    let same : n - 0 ≡ n = omega arith in
    subst (λ o. OwnMarked m es sheet o w) (sym is) (x, (subst (λ k. Marks m es (take k sheet) x) same marks, told))

pub own_none : (m : Meaning) (es : List Event) (sheet : List ℕ) (r : Result ℕ Refused) (e : Refused) → r ≡ Err e →
    (w : Option (Result (Unit {0}) Refused)) → w ≡ None → OwnMarked m es sheet r w
own_none m es sheet r e is w told = subst (λ o. OwnMarked m es sheet o w) (sym is) told
