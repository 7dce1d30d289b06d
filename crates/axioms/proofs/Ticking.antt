-- A list against a row of flags: the flag of each event of the list is lowered in turn.
use Rattle.std.proofs.Common.{◌≡◌, ℕ, ◌<◌, Bool, true, false, not, List, Decides, length, get_or, sym, refl, ◌∙◌, subst, inl, inr, arith}
use Rattle.std.proofs.lemmas.List.{get_or_past}
use Rattle.std.proofs.lemmas.Bool.{cases_lt}
use Rattle.std.specs.List.{IsAnyAnswer}
use mathlib.Core.Bool.{beq}
use Rattle.axioms.specs.PushOrders.{Marked, Lists}
use Rattle.axioms.proofs.Entries.{decides_none}

-- The flags F became M on the way through the first i events of L.
pub record TickedTo (F : List Bool) (L : List ℕ) (i : ℕ) (M : List Bool) : Type 0 where
  pub long : length M ≡ 64
  pub raised : (a : ℕ) → Marked M a → Marked F a × ((k : ℕ) → k < i → get_or L k 0 ≡ a → ⊥)
  pub lowered : (a : ℕ) → get_or M a false ≡ false → Marked F a → (k : ℕ) × (k < i) × (get_or L k 0 ≡ a)
  pub each : (k : ℕ) → k < i → Marked F (get_or L k 0)
  pub once : (j k : ℕ) → j < k → k < i → get_or L j 0 ≡ get_or L k 0 → ⊥

beq_true : (b : Bool) → beq b true ≡ b
beq_true true = refl
beq_true false = refl

module _ (F : List Bool) (L : List ℕ) where
  module _ (i : ℕ) (M : List Bool) (all : i ≡ length L) (ticked : TickedTo F L i M) where
    -- A flag that is still up is that of an event which the list lacks.
    pub still_raised : (a : ℕ) → Marked M a → Lists F L → ⊥
    still_raised a up h =
        let was = ticked.raised a up in
        let l = h.all a was.0 in
        was.1 l.place (omega (arith, l.within)) l.there

    pub all_lowered : ((a : ℕ) → a < 64 → get_or M a false ≡ false) → Lists F L
    all_lowered down = record {
      each = λ a l. subst (λ y. Marked F y) l.there (ticked.each l.place (omega (arith, l.within)));
      all = λ a m.
          let off : get_or M a false ≡ false = elim (cases_lt a 64) [ inl l ↦ down a l | inr l ↦ get_or_past M a false (omega (arith, ticked.long)) ] in
          let at = ticked.lowered a off m in
          record { place = at.0; within = omega (arith, at.1); there = at.2 };
      once = λ j k l h. ticked.once j k l (omega arith);
    }

    -- Whether a flag is still up tells whether the list is another.
    pub lists_told : (up : Bool) → IsAnyAnswer (λ y t. beq y true ≡ t) M up → Decides (not up) (Lists F L)
    lists_told true found = decides_none (still_raised found.0 (sym (beq_true (get_or M found.0 false)) ∙ found.2 false))
    lists_told false none = (
      λ _. all_lowered (λ a h. sym (beq_true (get_or M a false)) ∙ none a false (omega arith) (omega (arith, h, ticked.long))),
      λ _. refl,
    )
