-- JAM21 keeps and pushes only within program order, and all of it among sc accesses.
use Rattle.std.proofs.Common.{◌≡◌, ℕ, ◌+◌, ◌≤◌, Bool, true, List, length, Decides, refl, inl, inr, ⊎_elim, arith}
use Rattle.graph.specs.declared.code.Code.{Code}
use Rattle.graph.specs.declared.event.Event.{Event}
use Rattle.graph.specs.Events.{event, Present}
use Rattle.graph.specs.Order.{Po}
use Rattle.profiles.specs.Meaning.{Meaning}
use Rattle.profiles.specs.Modes.{marks, is_sc_access}
use Rattle.profiles.specs.Fences.{itself}
use Rattle.profiles.specs.Ordered.{added_first}
use Rattle.axioms.specs.Relations.{Kept, Pushed, Pushes}
use Rattle.sequential.specs.Single.{Jam21, AllSc}
use Rattle.sequential.proofs.Below.{some_below, some_below_decides}

sc_marks : (c : Code) → is_sc_access c ≡ true → marks c ≡ true
sc_marks c e = grind arith

-- the test of the events that push
pub pushes : Meaning → List Event → ℕ → Bool
pushes m es a = some_below (m.pushed es a) (length es + 8)

module _ (m : Meaning) (jam : Jam21 m) (es : List Event) where
  pub kept_po : (a b : ℕ) → Kept m es a b → Po es a b
  kept_po a b e = ⊎_elim (λ h. h.0) (⊎_elim (λ h. h.ordered) (⊎_elim (λ h. h.0) (λ h. h.0))) ((jam.kept es a b).0 e)

  pub pushed_po : (a b : ℕ) → Pushed m es a b → Po es a b
  pushed_po a b e = ⊎_elim (λ h. h.0) (λ h. h.0) ((jam.pushed es a b).0 e).1

  pub pushes_present : (a : ℕ) → Pushes m es a → Present es a
  pushes_present a h = let o = pushed_po a h.0 h.1 in omega (arith, o.earlier, o.added.1)

  pub pushes_decides : (a : ℕ) → Decides (pushes m es a) (Pushes m es a)
  unfolding pushes
  pushes_decides a =
      let d = some_below_decides (m.pushed es a) (Pushed m es a) (λ b. itself (m.pushed es a b)) (length es + 8) in
      (λ e. let k = d.0 e in (k.0, k.2), λ k. d.1 (k.0, (pushed_po a k.0 k.1).added.1, k.1))

  module _ (sc : AllSc es) where
    pub po_kept : (a b : ℕ) → Po es a b → Kept m es a b
    po_kept a b o = (jam.kept es a b).1 (inl (o, (b, inr (inl refl), record { added = o.added; mode = sc_marks (event es b).code (sc b o.added) })))

    pub po_pushed : (a b : ℕ) → 8 ≤ a → Po es a b → Pushed m es a b
    po_pushed a b l o = (jam.pushed es a b).1 (l, inr (o, (sc a (added_first es a b o l), sc b o.added)))
