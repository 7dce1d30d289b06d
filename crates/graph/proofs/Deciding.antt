-- The tests decide their relations.
use Rattle.std.proofs.Common.{ℕ, ◌+◌, ◌≤◌, ◌&&◌, ltb, leb, List, length, Decides}
use Rattle.std.proofs.lemmas.Bool.Decides.{Decides-and, Decides-or, Decides-ltb, Decides-eqb, Decides-like}
use Rattle.std.proofs.lemmas.Bool.{leb-true, le-leb}
use Rattle.graph.specs.declared.event.Event.{Event}
use Rattle.graph.specs.Events.{event}
use Rattle.graph.specs.Order.{po, Po}

pub leb_decides : (a b : ℕ) → Decides (leb a b) (a ≤ b)
leb_decides a b = (leb-true a b, le-leb a b)

pub po_decides : (es : List Event) (a b : ℕ) → Decides (po es a b) (Po es a b)
po_decides es a b =
    Decides-like (po es a b)
    (λ h. record { added = h.0; earlier = h.1.0; joined = h.1.1 })
    (λ h. (h.added, (h.earlier, h.joined)))
    (Decides-and (leb 8 b && ltb b (length es + 8)) _
    (Decides-and (leb 8 b) (ltb b (length es + 8)) (leb_decides 8 b) (Decides-ltb b (length es + 8)))
    (Decides-and (ltb a b) _ (Decides-ltb a b)
    (Decides-or (ltb a 8) _ (Decides-ltb a 8) (Decides-eqb (event es a).thread (event es b).thread))))
