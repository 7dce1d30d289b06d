-- A settled yes/no table says what can be reached.
use Rattle.std.proofs.Common.{◌≡◌, ℕ, ◌*◌, ◌<◌, true, false, ◌&&◌, ◌||◌, List, [], ◌∷◌, length, sym, ◌∙◌, inl, inr}
use Rattle.std.specs.List.{AllByRecursion}
use Rattle.std.proofs.lemmas.Bool.{and_parts, and_from, or_right, both_ways}
use Rattle.measures.specs.Paths.{entry, weight, Settled}
use Rattle.measures.specs.Reach.{yes}
use Rattle.measures.specs.Walks.{at, Leads, last, more, Yes, Reachable}
use Rattle.measures.proofs.Tables.{entry_is}

-- A path all of whose entries are yes.
pub record YesPath (n : ℕ) (xs : List ℕ) (a b : ℕ) : Type 0 where
  pub between : List ℕ
  pub row : a < n
  pub column : b < n
  pub within : AllByRecursion (λ v. v < n) between
  pub all_yes : weight ◌&&◌ (entry yes false n xs) a between b ≡ true

module _ (n : ℕ) (xs : List ℕ) (square : length xs ≡ n * n) where
  flag : (a b : ℕ) → a < n → b < n → entry yes false n xs a b ≡ yes (at n xs a b)
  flag a b p q = entry_is yes false n xs a b 0 square p q

  leads_path : (b a : ℕ) → Leads (Yes n xs) a b → YesPath n xs a b
  leads_path b a (last s) = record {
    between = [];
    row = s.row;
    column = s.column;
    within = tt;
    all_yes = flag a b s.row s.column ∙ s.is_yes;
  }
  leads_path b a (more {v = v} s r) =
      let p = leads_path b v r in
      record {
        between = v ∷ p.between;
        row = s.row;
        column = p.column;
        within = (s.column, p.within);
        all_yes = and_from _ _ (flag a v s.row s.column ∙ s.is_yes) p.all_yes;
      }

  path_leads : (a b : ℕ) (vs : List ℕ) → a < n → b < n → AllByRecursion (λ v. v < n) vs → weight ◌&&◌ (entry yes false n xs) a vs b ≡ true → Leads (Yes n xs) a b
  path_leads a b [] p q r e = last (record { row = p; column = q; is_yes = sym (flag a b p q) ∙ e })
  path_leads a b (v ∷ vs) p q r e =
      let parts = and_parts (entry yes false n xs a v) (weight ◌&&◌ (entry yes false n xs) v vs b) e in
      more (record { row = p; column = r.0; is_yes = sym (flag a v p r.0) ∙ parts.0 }) (path_leads v b vs r.0 q r.1 parts.1)

pub reachable : (n : ℕ) (xs ys : List ℕ) → length xs ≡ n * n → length ys ≡ n * n →
    Settled false ◌&&◌ ◌||◌ n (entry yes false n xs) (entry yes false n ys) → Reachable n xs ys
reachable n xs ys sx sy s a b p q =
    let is = flag n ys sy a b p q in (
      λ e. elim (s.reached a b p q) [
        | inl f ↦ absurd (both_ways (yes (at n ys a b)) (sym is ∙ f) e)
        | inr r ↦ path_leads n xs sx a b r.0 p q r.1 (r.2 ∙ is ∙ e)
      ],
      λ l.
          let r = leads_path n xs sx b a l in
          sym is ∙ sym (s.bound a b r.between p q r.within) ∙ or_right _ _ r.all_yes,
    )
