-- The strict profile shows the facts of a profile.
use Rattle.std.proofs.Common.{ap₂}
use Rattle.std.specs.Prelude.{◌&&◌, nat_le}
use Rattle.std.proofs.lemmas.Bool.{and_parts, leb-true}
use Rattle.graph.specs.Order.{po}
use Rattle.graph.proofs.Deciding.{po_decides}
use Rattle.profiles.specs.Laws.{Lawful}
use Rattle.profiles.specs.Strict.{strict}
use Rattle.profiles.specs.Ordered.{added_first, po_alike, added_alike}

pub strict_lawful : Lawful strict
strict_lawful = record {
  ordered = λ es a b e. (po_decides es a b).0 e;
  narrower = λ es a b e. (and_parts (nat_le 8 a) (po es a b) e).1;
  from_added = λ es a b e. let h = and_parts (nat_le 8 a) (po es a b) e in added_first es a b ((po_decides es a b).0 h.1) (leb-true 8 a h.0);
  kept_alike = po_alike;
  pushed_alike = λ xs a b ys c d h. ap₂ ◌&&◌ (added_alike xs a b ys c d h) (po_alike xs a b ys c d h);
}
