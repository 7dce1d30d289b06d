-- Total store order is a lawful profile, and its tests decide its relations.
use Rattle.std.specs.Prelude.{◌≡◌, ℕ, Bool, false, not, List, Decides, nat_le}
use Rattle.std.proofs.Common.{arith}
use Rattle.std.proofs.lemmas.Bool.{or_right}
use Rattle.std.proofs.lemmas.Bool.Decides.{Decides-and, Decides-or, Decides-like}
use Rattle.graph.specs.declared.code.Code.TheVariants.{Fence}
use Rattle.graph.specs.declared.code.FenceMode.{FenceMode}
use Rattle.graph.specs.declared.event.Event.{Event}
use Rattle.graph.specs.Events.{event}
use Rattle.graph.specs.Order.{Po}
use Rattle.graph.proofs.Deciding.{leb_decides}
use Rattle.profiles.specs.Laws.{Lawful}
use Rattle.profiles.specs.Modes.{is_sc_fence}
use Rattle.profiles.specs.Segments.{segment}
use Rattle.profiles.specs.Between.{any_decides}
use Rattle.profiles.specs.Fences.{sc_fence_decides}
use Rattle.profiles.specs.Ordered.{decides_under}
use Rattle.profiles.specs.SegmentLaws.{by_segment_lawful}
use Rattle.tso.specs.Tso.{Fenced, delayed, Kept, Pushed, fenced, keep, tso, Rules-stand}

pub tso_lawful : Lawful tso
tso_lawful = by_segment_lawful keep fenced (λ s e. or_right (not (delayed s.first.code s.last.code)) (fenced s) e)

no_decides : (r : Bool) → Decides (not r) (r ≡ false)
no_decides r = (λ e. grind arith, λ e. grind arith)

module _ (es : List Event) (a b : ℕ) where
  fenced_decides : Po es a b → Decides (fenced (segment es a b)) (Fenced es a b)
  fenced_decides p = any_decides es a b p is_sc_fence (λ c. c ≡ Fence FenceMode.Sc) sc_fence_decides

  kept_decides : Decides (tso.kept es a b) (Kept es a b)
  kept_decides =
      let late = delayed (event es a).code (event es b).code in
      decides_under es a b (keep (segment es a b)) (λ h. h.0)
      (λ p. Decides-like (keep (segment es a b)) (λ h. (p, h)) (λ h. h.1) (Decides-or (not late) (fenced (segment es a b)) (no_decides late) (fenced_decides p)))

  pushed_decides : Decides (tso.pushed es a b) (Pushed es a b)
  pushed_decides =
      Decides-and (nat_le 8 a) _ (leb_decides 8 a)
      (decides_under es a b (fenced (segment es a b)) (λ h. h.0)
      (λ p. Decides-like (fenced (segment es a b)) (λ h. (p, h)) (λ h. h.1) (fenced_decides p)))

pub rules_stand : Rules-stand
rules_stand es a b = (kept_decides es a b, pushed_decides es a b)
