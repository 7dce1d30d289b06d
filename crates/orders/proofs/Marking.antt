-- What a precedence tells after one more pair.
use Rattle.std.proofs.Common.{◌≡◌, ℕ, ◌<◌, Bool, true, false, ◌⊎◌, List, [], length, get_or, set, sym, ap, ◌∙◌, subst, inl, inr}
use Rattle.std.proofs.lemmas.List.{get_or-set_same, get_or-set_other}
use Rattle.std.proofs.lemmas.Bool.{cases_eq}
use Rattle.cycles.specs.Tables.{Same}
use Rattle.orders.specs.Orders.{Precedes, Pair}
use Rattle.orders.specs.declared.precedence.Precedence.{Precedence}

-- A table in which the cell in row u and column v became true.
module _ (old new : List (List Bool)) (u v : ℕ) (tall : u < length old) (wide : v < length (get_or old u []))
    (is : new ≡ set old u (set (get_or old u []) v true))
  where
    row_u : get_or new u [] ≡ set (get_or old u []) v true
    row_u = ap (λ cs. get_or cs u []) is ∙ get_or-set_same old u (set (get_or old u []) v true) [] tall

    there : (x y : ℕ) → x ≡ u → y ≡ v → get_or (get_or new x []) y false ≡ true
    there x y e f =
        cc (row_u, get_or-set_same (get_or old u []) v true false wide)

    elsewhere : (x y : ℕ) → (x ≡ u → y ≡ v → ⊥) → get_or (get_or new x []) y false ≡ get_or (get_or old x []) y false
    elsewhere x y apart =
        elim (cases_eq x u) [
          | inl e ↦
              cc (row_u, get_or-set_other (get_or old u []) v y true false (apart e))
          | inr e ↦ ap (λ cs. get_or (get_or cs x []) y false) is ∙ ap (λ r. get_or r y false) (get_or-set_other old u x (set (get_or old u []) v true) [] e)
        ]

module _ (old new : Precedence) (u v : ℕ) (count : new.count ≡ old.count) where
  pub marked : (i j : ℕ) → i ≡ u → j ≡ v → u < old.count → v < old.count → i < length old.cells → j < length (get_or old.cells i []) →
      new.cells ≡ set old.cells i (set (get_or old.cells i []) j true) →
      Same (Precedes new) (λ x y. Precedes old x y ⊎ Pair old.count u v x y)
  marked i j at_i at_j p q tall_i wide_i made = record { to = to; from = from }
    where
      tall : u < length old.cells
      tall = rw (← at_i) tall_i

      wide : v < length (get_or old.cells u [])
      wide = subst (λ k. v < length (get_or old.cells k [])) at_i (rw (← at_j) wide_i)

      is : new.cells ≡ set old.cells u (set (get_or old.cells u []) v true)
      is = made ∙ ap (λ k. set old.cells k (set (get_or old.cells k []) j true)) at_i ∙ ap (λ k. set old.cells u (set (get_or old.cells u []) k true)) at_j

      to : (x y : ℕ) → Precedes new x y → Precedes old x y ⊎ Pair old.count u v x y
      to x y h =
          let a : x < old.count = rw count at h.first in
          let b : y < old.count = rw count at h.second in
          elim (cases_eq x u) [
            | inl e ↦ elim (cases_eq y v) [
              | inl f ↦ inr (record { first = e; second = f; first_below = a; second_below = b; distinct = h.distinct })
              | inr f ↦ inl (record { first = a; second = b; distinct = h.distinct; related = sym (elsewhere old.cells new.cells u v tall wide is x y (λ _ g. f g)) ∙ h.related })
            ]
            | inr e ↦ inl (record { first = a; second = b; distinct = h.distinct; related = sym (elsewhere old.cells new.cells u v tall wide is x y (λ g _. e g)) ∙ h.related })
          ]

      from : (x y : ℕ) → (Precedes old x y ⊎ Pair old.count u v x y) → Precedes new x y
      from x y (inr o) = record {
        first = rw count o.first_below;
        second = rw count o.second_below;
        distinct = o.distinct;
        related = there old.cells new.cells u v tall wide is x y o.first o.second;
      }
      from x y (inl o) = record {
        first = rw count o.first;
        second = rw count o.second;
        distinct = o.distinct;
        related = elim (cases_eq x u) [
          | inl e ↦ elim (cases_eq y v) [
            | inl f ↦ there old.cells new.cells u v tall wide is x y e f
            | inr f ↦ elsewhere old.cells new.cells u v tall wide is x y (λ _ g. f g) ∙ o.related
          ]
          | inr e ↦ elsewhere old.cells new.cells u v tall wide is x y (λ g _. e g) ∙ o.related
        ];
      }
