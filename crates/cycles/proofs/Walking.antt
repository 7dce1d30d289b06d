-- Walks joined, turned and cut: where there is a walk there is one without a vertex twice, so one of at most n steps.
use Rattle.std.proofs.Common.{◌≡◌, ℕ, zero, suc, ◌+◌, ◌<◌, ◌≤◌, ◌⊎◌, List, [], ◌∷◌, ◌++◌, length, sym, subst, inl, inr, ⊎_elim, arith, length-append}
use Rattle.std.specs.List.{AllByRecursion}
use Rattle.std.proofs.lemmas.Bool.{cases_eq}
use Rattle.measures.specs.Walks.{Leads, last, more}
use Rattle.cycles.specs.Cycles.{Walk, Distinct}

-- What is left of xs without v.
record Without (v : ℕ) (xs : List ℕ) : Type 1 where
  rest : List ℕ
  distinct : Distinct rest
  long : length xs ≤ suc (length rest)
  apart : AllByRecursion (λ y. v ≡ y → ⊥) rest
  keeps : (P : ℕ → Type 0) → AllByRecursion P xs → AllByRecursion P rest

without : (v : ℕ) (xs : List ℕ) → Distinct xs → Without v xs
without v [] d = record { rest = []; distinct = tt; long = omega arith; apart = tt; keeps = λ P h. tt }
without v (x ∷ xs) d =
    elim (cases_eq v x) [
      | inl e ↦
          record {
            rest = xs;
            distinct = d.1;
            long = omega arith;
            apart = subst (λ u. AllByRecursion (λ y. u ≡ y → ⊥) xs) (sym e) d.0;
            keeps = λ P h. h.1;
          }
      | inr e ↦
          let w = without v xs d.1 in
          record {
            rest = x ∷ w.rest;
            distinct = (w.keeps (λ y. x ≡ y → ⊥) d.0, w.distinct);
            long = omega (arith, w.long);
            apart = (e, w.apart);
            keeps = λ P h. (h.0, w.keeps P h.1);
          }
    ]

tighter : (n : ℕ) (xs : List ℕ) → AllByRecursion (λ x. x < suc n) xs → AllByRecursion (λ y. n ≡ y → ⊥) xs → AllByRecursion (λ x. x < n) xs
tighter n [] h k = tt
tighter n (x ∷ xs) h k = (let p = h.0 in let q = k.0 in omega arith, tighter n xs h.1 k.1)

-- Numbers below n, none of which stands twice, are at most n.
pub few : (n : ℕ) (xs : List ℕ) → Distinct xs → AllByRecursion (λ x. x < n) xs → length xs ≤ n
few zero [] d h = omega arith
few zero (x ∷ xs) d h = let p = h.0 in omega arith
few (suc n) xs d h =
    let w = without n xs d in
    omega (arith, w.long, few n w.rest w.distinct (tighter n w.rest (w.keeps (λ x. x < suc n) h) w.apart))

module _ (R : ℕ → ℕ → Type 0) where
  join_walks : (a v b : ℕ) (us vs : List ℕ) → Walk R a us v → Walk R v vs b → Walk R a (us ++ (v ∷ vs)) b
  join_walks a v b [] vs p q = (p, q)
  join_walks a v b (u ∷ us) vs p q = (p.0, join_walks u v b us vs p.1 q)

  pub leads_walk : (b a : ℕ) → Leads R a b → (vs : List ℕ) × Walk R a vs b
  leads_walk b a (last p) = ([], p)
  leads_walk b a (more {v = v} p q) = let w = leads_walk b v q in (v ∷ w.0, (p, w.1))

  pub walk_leads : (a b : ℕ) (vs : List ℕ) → Walk R a vs b → Leads R a b
  walk_leads a b [] p = last p
  walk_leads a b (v ∷ vs) p = more p.0 (walk_leads v b vs p.1)

  -- On a walk from a to s each vertex has a walk to itself, through the walk from s to a, of as many steps as both together.
  around : (s a : ℕ) (us vs : List ℕ) → Walk R s us a → Walk R a vs s →
      AllByRecursion (λ v. (ws : List ℕ) × Walk R v ws v × (length ws ≡ length us + length vs + 1)) vs
  around s a us [] p q = tt
  around s a us (v ∷ vs) p q =
      let on = join_walks s a v us [] p q.0 in
      let long = length-append us (a ∷ []) in (
        turned vs v q.1 (us ++ a ∷ []) on (omega arith),
        subst (λ m. AllByRecursion (λ v. (ws : List ℕ) × Walk R v ws v × (length ws ≡ m)) vs) (omega arith) (around s v (us ++ a ∷ []) vs on q.1),
      )
    where
      turned : (vs : List ℕ) (v : ℕ) → Walk R v vs s → (ws : List ℕ) → Walk R s ws v → length ws ≡ length us + 1 →
          (xs : List ℕ) × Walk R v xs v × (length xs ≡ length us + suc (length vs) + 1)
      turned vs v p ws q e = (vs ++ s ∷ ws, join_walks v s v vs ws p q, omega (arith, length-append vs (s ∷ ws)))

  -- Each vertex of a closed walk has a closed walk of as many steps.
  pub turns : (s : ℕ) (vs : List ℕ) → Walk R s vs s → AllByRecursion (λ v. (ws : List ℕ) × Walk R v ws v × (length ws ≡ length vs)) vs
  turns s [] p = tt
  turns s (v ∷ vs) p = (
    (vs ++ s ∷ [], join_walks v s v vs [] p.1 p.0, omega (arith, length-append vs (s ∷ []))),
    subst (λ m. AllByRecursion (λ v. (ws : List ℕ) × Walk R v ws v × (length ws ≡ m)) vs) (omega arith) (around s v [] vs p.0 p.1),
  )

  pub record Short (a b : ℕ) : Type 0 where
    pub mid : List ℕ
    pub walk : Walk R a mid b
    pub distinct : Distinct (a ∷ mid)

  -- What is left of a walk from where it comes to a, if it does.
  cut : (a v b : ℕ) (vs : List ℕ) → Walk R v vs b → Distinct (v ∷ vs) → Short a b ⊎ AllByRecursion (λ y. a ≡ y → ⊥) (v ∷ vs)
  cut a v b [] p d =
      elim (cases_eq a v) [
        | inl e ↦ inl (record { mid = []; walk = subst (λ u. Walk R u [] b) (sym e) p; distinct = (tt, tt) })
        | inr e ↦ inr (e, tt)
      ]
  cut a v b (w ∷ vs) p d =
      elim (cases_eq a v) [
        | inl e ↦
            inl (record {
              mid = w ∷ vs;
              walk = subst (λ u. Walk R u (w ∷ vs) b) (sym e) p;
              distinct = subst (λ u. Distinct (u ∷ w ∷ vs)) (sym e) d;
            })
        | inr e ↦ ⊎_elim inl (λ h. inr (e, h)) (cut a w b vs p.1 d.1)
      ]

  pub shorten : (a b : ℕ) (vs : List ℕ) → Walk R a vs b → Short a b
  shorten a b [] p = record { mid = []; walk = p; distinct = (tt, tt) }
  shorten a b (v ∷ vs) p =
      let s = shorten v b vs p.1 in
      elim (cut a v b s.mid s.walk s.distinct) [
        | inl t ↦ t
        | inr h ↦ record { mid = v ∷ s.mid; walk = (p.0, s.walk); distinct = (h, s.distinct) }
      ]

  module _ (n : ℕ) (bounds : (a b : ℕ) → R a b → (a < n) × (b < n)) where
    pub walk_below : (a b : ℕ) (vs : List ℕ) → Walk R a vs b → AllByRecursion (λ v. v < n) (a ∷ vs)
    walk_below a b [] p = ((bounds a b p).0, tt)
    walk_below a b (v ∷ vs) p = ((bounds a v p.0).0, walk_below v b vs p.1)

    -- Where there is a walk, there is one of at most n steps.
    pub short_walk : (a b : ℕ) (vs : List ℕ) → Walk R a vs b → (us : List ℕ) × Walk R a us b × (length us + 1 ≤ n)
    short_walk a b vs p =
        let s = shorten a b vs p in
        let h = few n (a ∷ s.mid) s.distinct (walk_below a b s.mid s.walk) in
        (s.mid, s.walk, omega arith)
