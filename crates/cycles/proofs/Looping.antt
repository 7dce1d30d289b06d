-- A settled yes/no table tells by its diagonal whether there is a cycle.
use Rattle.std.proofs.Common.{◌≡◌, ℕ, ◌<◌, ◌≤◌, ◌≢◌, Bool, true, false, MatchBool, List, refl, arith}
use Rattle.std.proofs.lemmas.Bool.{false≢true}
use Rattle.measures.specs.Outcome.{Square}
use Rattle.measures.specs.Walks.{at, Yes, Reachable, Leads, last, more}
use Rattle.cycles.specs.Answers.{Tested}
use Rattle.cycles.proofs.Choosing.{yes_where_not_0, not_0_where_yes}

module _ (n : ℕ) (xs : List ℕ) where
  leads_below : (b a : ℕ) → Leads (Yes n xs) a b → a < n
  leads_below b a (last s) = s.row
  leads_below b a (more s r) = s.row

  module _ (ys : List ℕ) (square : Square n xs) (reach : Reachable n xs ys) where
    pub tested : (r : Bool) → MatchBool r ((v : ℕ) × (0 ≤ v) × (v < n) × (at n ys v v ≢ 0)) ((v : ℕ) → 0 ≤ v → v < n → at n ys v v ≡ 0) → Tested n xs ys r
    tested true h = record {
      square = square;
      reachable = reach;
      decides = (λ _. (h.0, (reach h.0 h.0 h.2 h.2).0 (yes_where_not_0 (at n ys h.0 h.0) h.3)), λ _. refl);
    }
    tested false none = record {
      square = square;
      reachable = reach;
      decides = (
        λ e. absurd (false≢true e),
        λ h.
            let p = leads_below h.0 h.0 h.1 in
            absurd (not_0_where_yes (at n ys h.0 h.0) ((reach h.0 h.0 p p).1 h.1) (none h.0 (omega arith) p)),
      );
    }
