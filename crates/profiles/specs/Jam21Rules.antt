-- The tests of JAM21 decide its rules, and the profile is lawful.
use Rattle.std.specs.Prelude.{◌≡◌, ℕ, ◌<◌, Bool, true, ◌&&◌, ◌||◌, ◌⊎◌, List, Decides, ◌≢◌, nat_le}
use Rattle.std.proofs.Common.{arith, ap, subst, ◌∙◌}
use Rattle.std.proofs.Math.Path.{refl}
use Rattle.std.proofs.Math.Logic.{inl, inr, ⊎_elim}
use Rattle.std.proofs.Math.Bool.{or_assoc}
use Rattle.std.proofs.lemmas.Bool.{or_right, cases_lt}
use Rattle.std.proofs.lemmas.Bool.Decides.{Decides-and, Decides-or, Decides-like, Decides-at, same_from_decides}
use Rattle.graph.specs.declared.code.Code.TheVariants.{Fence}
use Rattle.graph.specs.declared.code.FenceMode.{FenceMode}
use Rattle.graph.specs.declared.event.Event.{Event}
use Rattle.graph.specs.Codes.{is_access}
use Rattle.graph.specs.Events.{event}
use Rattle.graph.specs.Order.{Po}
use Rattle.graph.proofs.Deciding.{leb_decides}
use Rattle.profiles.specs.Laws.{Lawful}
use Rattle.profiles.specs.Meaning.{Told}
use Rattle.profiles.specs.Modes.{marks, is_sc_access, is_release_fence, is_acquire_fence, is_sc_fence}
use Rattle.profiles.specs.Patterns.{followed, any}
use Rattle.profiles.specs.Segments.{segment, inner_codes}
use Rattle.profiles.specs.Rules.{Marked, Ra, Svo, Spush, Volint, Kept, Pushed}
use Rattle.profiles.specs.Jam21.{ra, svo, spush, volint, keep, push, jam21}
use Rattle.profiles.specs.Ordered.{event_initial, added_first, po_trans, decides_under}
use Rattle.profiles.specs.Fences.{release_decides, acquire_decides, sc_fence_decides, itself}
use Rattle.profiles.specs.Between.{followed_decides, any_decides}
use Rattle.profiles.specs.SegmentLaws.{by_segment_lawful}

module _ (es : List Event) (a b : ℕ) where
  at_first : Po es a b → Decides (marks (event es a).code) (Marked es a)
  at_first p = (
    λ e. ⊎_elim (λ l. absurd (relaxed l e)) (λ l. record { added = added_first es a b p l; mode = e }) (cases_lt a 8),
    λ m. m.mode,
  )
    where
      relaxed : a < 8 → marks (event es a).code ≢ true
      relaxed l e = let w = ap (λ x. marks x.code) (event_initial es a l) in grind arith

  pub ra_decides : Po es a b → Decides (ra (segment es a b)) (Ra es a b)
  unfolding ra
  ra_decides p =
      Decides-like _
      (⊎_elim (λ m. (p, (a, inl refl, m))) (⊎_elim (λ m. (p, (b, inr (inl refl), m))) (λ h. (p, (h.0, inr (inr h.1), record { added = h.1.after.added; mode = h.2 })))))
      (λ h. ⊎_elim (λ e. inl (subst (Marked es) e h.1.2)) (λ w. inr (⊎_elim (λ e. inl (subst (Marked es) e h.1.2)) (λ k. inr (h.1.0, k, h.1.2.mode)) w)) h.1.1)
      (Decides-or (marks (event es a).code) _ (at_first p)
      (Decides-or (marks (event es b).code) (any marks (inner_codes (segment es a b))) (λ e. record { added = p.added; mode = e }, λ m. m.mode)
      (any_decides es a b p marks (λ c. marks c ≡ true) (λ c. itself (marks c)))))

  pub svo_decides : Po es a b → Decides (svo (segment es a b)) (Svo es a b)
  unfolding svo
  svo_decides p =
      Decides-like _
      (λ h. let m = h.2.1 in let q = m.2.1 in record {
        ordered = p;
        release = h.0;
        access = m.0;
        acquire = q.0;
        after_a = h.1.after;
        then_access = m.1.after;
        then_acquire = q.1.after;
        before_b = q.1.before;
        is_release = h.2.0;
        is_an_access = m.2.0;
        is_acquire = q.2;
      })
      (λ h.
      let from-access = po_trans es h.access h.acquire b h.then_acquire h.before_b in
      let from-release = po_trans es h.release h.access b h.then_access from-access in (
        h.release,
        record { after = h.after_a; before = from-release },
        (
          h.is_release,
          (
            h.access,
            record { after = h.then_access; before = from-access },
            (h.is_an_access, (h.acquire, record { after = h.then_acquire; before = h.before_b }, h.is_acquire)),
          ),
        ),
      ))
      (followed_decides es a b p is_release_fence (λ c. c ≡ Fence FenceMode.Rel) release_decides (followed is_access (any is_acquire_fence)) _
      (λ n h. followed_decides es n b h.before is_access (λ c. is_access c ≡ true) (λ c. itself (is_access c)) (any is_acquire_fence) _
      (λ m k. any_decides es m b k.before is_acquire_fence (λ c. c ≡ Fence FenceMode.Acq) acquire_decides)))

  pub spush_decides : Po es a b → Decides (spush (segment es a b)) (Spush es a b)
  unfolding spush
  spush_decides p =
      Decides-like _ (λ h. (p, h)) (λ h. h.1) (any_decides es a b p is_sc_fence (λ c. c ≡ Fence FenceMode.Sc) sc_fence_decides)

  pub volint_decides : Po es a b → Decides (volint (segment es a b)) (Volint es a b)
  unfolding volint
  volint_decides p =
      Decides-like _ (λ h. (p, h)) (λ h. h.1)
      (Decides-and (is_sc_access (event es a).code) (is_sc_access (event es b).code) (itself _) (itself _))

  push_decides : Po es a b → Decides (push (segment es a b)) (Spush es a b ⊎ Volint es a b)
  push_decides p = Decides-or (spush (segment es a b)) (volint (segment es a b)) (spush_decides p) (volint_decides p)

  pub kept_decides : Decides (jam21.kept es a b) (Kept es a b)
  kept_decides =
      decides_under es a b (keep (segment es a b)) (⊎_elim (λ h. h.0) (⊎_elim (λ h. h.ordered) (⊎_elim (λ h. h.0) (λ h. h.0))))
      (λ p. Decides-or (ra (segment es a b)) _ (ra_decides p) (Decides-or (svo (segment es a b)) _ (svo_decides p) (push_decides p)))

  pub pushed_decides : Decides (jam21.pushed es a b) (Pushed es a b)
  pushed_decides = Decides-and (nat_le 8 a) _ (leb_decides 8 a) (decides_under es a b (push (segment es a b)) (⊎_elim (λ h. h.0) (λ h. h.0)) push_decides)

-- the two answers, put together from the four
module _ (es : List Event) (a b : ℕ) (r s p v : Bool) (by-ra : Decides r (Ra es a b)) (by-svo : Decides s (Svo es a b)) (by-spush : Decides p (Spush es a b)) (by-volint : Decides v (Volint es a b)) where
  pub told_kept : Told (((r || s) || p) || v) (jam21.kept es a b) (Kept es a b)
  told_kept =
      let holds = Decides-at _ _ (or_assoc (r || s) p v ∙ or_assoc r s (p || v)) (Decides-or r _ by-ra (Decides-or s _ by-svo (Decides-or p v by-spush by-volint))) in
      record { value = same_from_decides _ _ holds (kept_decides es a b); holds = holds }

  pub told_pushed : Told (nat_le 8 a && (p || v)) (jam21.pushed es a b) (Pushed es a b)
  told_pushed =
      let holds = Decides-and (nat_le 8 a) (p || v) (leb_decides 8 a) (Decides-or p v by-spush by-volint) in
      record { value = same_from_decides _ _ holds (pushed_decides es a b); holds = holds }

pub jam21_lawful : Lawful jam21
jam21_lawful = by_segment_lawful keep push (λ s e. or_right (ra s) (svo s || push s) (or_right (svo s) (push s) e))
