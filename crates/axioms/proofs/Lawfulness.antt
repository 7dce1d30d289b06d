-- A list in which no event stands twice is lawful exactly if no event reaches one that stands earlier.
use Rattle.std.proofs.Common.{◌≡◌, ℕ, ◌<◌, ◌≤◌, Bool, true, false, List, length, get_or, take, Decides, sym, refl, ap, ◌∙◌, subst, inl, inr, arith}
use Rattle.std.proofs.lemmas.Bool.{cases_order}
use Rattle.std.proofs.lemmas.Bool.Decides.{Decides-like}
use Rattle.std.proofs.lemmas.List.{get_or-take, length-take-le}
use Rattle.measures.specs.Walks.{Leads}
use Rattle.graph.specs.declared.event.Event.{Event}
use Rattle.axioms.specs.Orders.{Once}
use Rattle.axioms.specs.Relations.{SourceStep, Lawful}
use Rattle.axioms.proofs.Entries.{decides_none}

-- An event stands at one place.
pub once_place : (L : List ℕ) → Once L → (i j : ℕ) → i < length L → j < length L → get_or L i 0 ≡ get_or L j 0 → i ≡ j
once_place L once i j p q e = elim (cases_order i j) [
  | inl same ↦ same
  | inr apart ↦ elim apart [ inl h ↦ absurd (once i j h q e) | inr h ↦ absurd (once j i h p (sym e)) ]
]

module _ (es : List Event) (L : List ℕ) (once : Once L) where
  pub turned : (i j : ℕ) → i < j → j < length L → Leads (SourceStep es) (get_or L j 0) (get_or L i 0) → Decides false (Lawful es L)
  turned i j h p leads = decides_none (λ (lawful : Lawful es L).
      let in-i : i < length L = omega arith in
      let b = lawful (get_or L j 0) (get_or L i 0) (record { place = j; within = p; there = refl }) (record { place = i; within = in-i; there = refl })
      (λ e. once i j h p (sym e)) leads in
      let b-i : b.i < length L = omega (arith, b.earlier, b.within) in
      let at_j = once_place L once b.i j b-i p b.first in
      let at_i = once_place L once b.j i b.within in-i b.second in
      omega (arith, b.earlier))

  pub straight : ((i j : ℕ) → i < j → j < length L → Leads (SourceStep es) (get_or L j 0) (get_or L i 0) → ⊥) → Decides true (Lawful es L)
  straight none = (
    λ _ a b in-a in_b apart leads. elim (cases_order in-a.place in_b.place) [
      | inl same ↦ absurd (apart (sym in-a.there ∙ ap (λ k. get_or L k 0) same ∙ in_b.there))
      | inr way ↦ elim way [
        | inl h ↦ record {
          i = in-a.place;
          j = in_b.place;
          earlier = h;
          within = in_b.within;
          first = in-a.there;
          second = in_b.there;
        }
        | inr h ↦
            let from = subst (λ x. Leads (SourceStep es) x b) (sym in-a.there) leads in
            absurd (none in_b.place in-a.place h in-a.within (subst (λ x. Leads (SourceStep es) (get_or L in-a.place 0) x) (sym in_b.there) from))
      ]
    ],
    λ _. refl,
  )

-- One of the events before a place is one of the list's front.
pub front_told : (P : ℕ → Type 0) (L : List ℕ) (k j : ℕ) → k ≡ j → j ≤ length L → (r : Bool) →
    Decides r ((i : ℕ) × (i < length (take k L)) × P (get_or (take k L) i 0)) → Decides r ((i : ℕ) × (i < j) × P (get_or L i 0))
front_told P L k j is within r =
    let long = length-take-le k L (omega arith) in
    Decides-like r
    (λ h. let low : h.0 < k = omega (arith, h.1) in (h.0, omega (arith, h.1), subst P (get_or-take k L h.0 0 low) h.2))
    (λ h. let low : h.0 < k = omega (arith, h.1) in (h.0, omega (arith, h.1), subst P (sym (get_or-take k L h.0 0 low)) h.2))
