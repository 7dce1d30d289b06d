-- The marked events are collected by rising number, at the front of a buffer.
use Rattle.std.proofs.Common.{◌≡◌, ℕ, ◌+◌, ◌<◌, ◌≤◌, Bool, false, List, ◌++◌, length, get_or, take, drop, set, sym, ap, ◌∙◌, subst, inl, inr, arith, length-set, below_more}
use Rattle.std.proofs.lemmas.List.{get_or_past, get_or-set_same, get_or-set_other, get_or-take, length-take-le, take-append-drop, drop-drop, drop-set-lt}
use Rattle.std.proofs.lemmas.Bool.{both_ways, cases_lt}
use Rattle.axioms.specs.PushOrders.{Marked, Lists, Increasing, Front}

-- The marked events below a stand at the first k places.
pub record CollectedTo (F : List Bool) (a : ℕ) (old new : List ℕ) (k : ℕ) : Type 0 where
  pub few : k ≤ a
  pub long : length new ≡ 64
  pub each : (i : ℕ) → i < k → Marked F (get_or new i 0) × (get_or new i 0 < a)
  pub all : (x : ℕ) → x < a → Marked F x → (i : ℕ) × (i < k) × (get_or new i 0 ≡ x)
  pub increasing : (i j : ℕ) → i < j → j < k → get_or new i 0 < get_or new j 0
  pub rest : drop k new ≡ drop k old

module _ (F : List Bool) (a : ℕ) (old new : List ℕ) (k : ℕ) (so_far : CollectedTo F a old new k) where
  pub collected_skip : get_or F a false ≡ false → CollectedTo F (a + 1) old new k
  collected_skip off = record {
    few = omega (arith, so_far.few);
    long = so_far.long;
    each = λ i h. let e = so_far.each i h in (e.0, omega (arith, e.1));
    all = below_more (λ x. Marked F x → (i : ℕ) × (i < k) × (get_or new i 0 ≡ x)) a so_far.all (λ m. absurd (both_ways (get_or F a false) off m));
    increasing = so_far.increasing;
    rest = so_far.rest;
  }

  pub collected_more : a < 64 → Marked F a → CollectedTo F (a + 1) old (set new k a) (k + 1)
  collected_more small on =
      let here : get_or (set new k a) k 0 ≡ a = get_or-set_same new k a 0 (omega (arith, so_far.few, so_far.long)) in
      let other : (i : ℕ) → i < k → get_or (set new k a) i 0 ≡ get_or new i 0 = λ i h. get_or-set_other new k i a 0 (λ e. omega arith) in
      record {
        few = omega (arith, so_far.few);
        long = simp length-set so_far.long;
        each = below_more (λ i. Marked F (get_or (set new k a) i 0) × (get_or (set new k a) i 0 < a + 1)) k
            (λ i h. let e = so_far.each i h in (subst (λ y. Marked F y) (sym (other i h)) e.0, omega (arith, e.1, other i h)))
            (subst (λ y. Marked F y) (sym here) on, omega (arith, here));
        all = below_more (λ x. Marked F x → (i : ℕ) × (i < k + 1) × (get_or (set new k a) i 0 ≡ x)) a
            (λ x h m. let w = so_far.all x h m in (w.0, omega (arith, w.1), other w.0 w.1 ∙ w.2))
            (λ m. (k, omega arith, here));
        increasing = λ i j l h. elim (cases_lt j k) [
          | inl b ↦ omega (arith, so_far.increasing i j l b, other i (omega arith), other j b)
          | inr b ↦
              let last : j ≡ k = omega arith in
              let at_j : get_or (set new k a) j 0 ≡ a = ap (λ y. get_or (set new k a) y 0) last ∙ here in
              let below : i < k = omega arith in
              omega (arith, at_j, other i below, (so_far.each i below).1)
        ];
        rest =
            drop-set-lt (k + 1) new k a (omega arith) ∙ sym (drop-drop 1 k new) ∙ ap (λ xs. drop 1 xs) so_far.rest ∙ drop-drop 1 k old;
      }

module _ (F : List Bool) (a : ℕ) (old new : List ℕ) (k : ℕ) (done : a ≡ 64) (flags : length F ≡ 64) (c : CollectedTo F a old new k) where
  pub collected_all : Front (λ L. Lists F L × Increasing L) old new k
  collected_all =
      let count : length (take k new) ≡ k = length-take-le k new (omega (arith, c.few, c.long)) in
      let same : (i : ℕ) → i < k → get_or (take k new) i 0 ≡ get_or new i 0 = λ i h. get_or-take k new i 0 h in
      let inside : (i : ℕ) → i < length (take k new) → i < k = λ i h. omega arith in
      let increasing : Increasing (take k new) = λ i j l h.
      omega (arith, c.increasing i j l (inside j h), same i (omega (arith, inside j h)), same j (inside j h)) in
      record {
        written = take k new;
        holds = (
          record {
            each = λ x l.
                let at = inside l.place l.within in
                subst (λ y. Marked F y) (sym (same l.place at) ∙ l.there) (c.each l.place at).0;
            all = λ x m.
                let below : x < a = elim (cases_lt x a) [
                  | inl h ↦ h
                  | inr h ↦ absurd (both_ways (get_or F x false) (get_or_past F x false (omega arith)) m)
                ] in
                let w = c.all x below m in
                record { place = w.0; within = omega (arith, w.1, count); there = same w.0 w.1 ∙ w.2 };
            once = λ i j l h e. omega (arith, increasing i j l h);
          },
          increasing,
        );
        count = count;
        front = sym (take-append-drop k new) ∙ ap (λ xs. take k new ++ xs) c.rest;
      }
