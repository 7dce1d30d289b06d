-- What a round of Floyd and Warshall's does to a table, from the laws.
use Rattle.std.proofs.Common.{◌≡◌, ℕ, ◌+◌, ◌<◌, List, [], ◌∷◌, ◌++◌, sym, refl, ap, ◌∙◌, subst, inl, inr, arith}
use Rattle.std.specs.List.{AllByRecursion}
use Rattle.std.proofs.ByRecursion.{All-append}
use Rattle.std.proofs.lemmas.Bool.{cases_lt}
use Rattle.measures.specs.Laws.{Laws}
use Rattle.measures.specs.Paths.{weight, Beats, Reached, Settled}
use Rattle.measures.specs.Rounds.{relaxed}
use Rattle.measures.proofs.Order.{better_same, beats_trans, beats_left, beats_right, beats_better, joined_right, joined_left, beats_after}

-- After the rounds of the vertices below k: t is at least the table e at entry, going on from a step of e
-- to a vertex below k gains nothing, and each entry of t is reached.
pub record Upto {W : Type 0} (none : W) (joined better : W → W → W) (n k : ℕ) (e t : ℕ → ℕ → W) : Type 0 where
  pub direct : (a b : ℕ) → a < n → b < n → Beats better (t a b) (e a b)
  pub onward : (a v b : ℕ) → a < n → v < k → b < n → Beats better (t a b) (joined (e a v) (t v b))
  pub reached : (a b : ℕ) → a < n → b < n → Reached none joined n e a b (t a b)

module _ {W : Type 0} {none here : W} {joined better : W → W → W} (laws : Laws none here joined better) where
  -- Row k stays.
  pub row_stays : (t : ℕ → ℕ → W) (k b : ℕ) → relaxed joined better t k k b ≡ t k b
  row_stays t k b = beats_after laws (t k k) (t k b)

  pub weight_append : (e : ℕ → ℕ → W) (a k b : ℕ) (us vs : List ℕ) →
      weight joined e a (us ++ (k ∷ vs)) b ≡ joined (weight joined e a us k) (weight joined e k vs b)
  weight_append e a k b [] vs = refl
  weight_append e a k b (u ∷ us) vs =
      ap (joined (e a u)) (weight_append e u k b us vs) ∙ sym (laws.joined_assoc (e a u) (weight joined e u us k) (weight joined e k vs b))

  pub start : (n : ℕ) (e : ℕ → ℕ → W) → Upto none joined better n 0 e e
  start n e = record {
    direct = λ a b p q. better_same laws (e a b);
    onward = λ a v b p q r. absurd (omega arith);
    reached = λ a b p q. inr ([], tt, refl);
  }

  pub through : (n : ℕ) (e : ℕ → ℕ → W) (a k b : ℕ) (x y : W) → k < n →
      Reached none joined n e a k x → Reached none joined n e k b y → Reached none joined n e a b (joined x y)
  through n e a k b x y h (inl p) r = inl (ap (λ w. joined w y) p ∙ laws.none_joined y)
  through n e a k b x y h (inr p) (inl q) = inl (ap (joined x) q ∙ laws.joined_none x)
  through n e a k b x y h (inr p) (inr q) =
      inr (
        p.0 ++ (k ∷ q.0),
        All-append (λ v. v < n) p.0 (k ∷ q.0) p.1 (h, q.1),
        let w = weight_append e a k b p.0 q.0 in cc (p.2, q.2),
      )

  module _ (n k : ℕ) (e t t' : ℕ → ℕ → W) (h : k < n) (u : Upto none joined better n k e t) (made : (a b : ℕ) → a < n → b < n → t' a b ≡ relaxed joined better t k a b) where
    step_direct : (a b : ℕ) → a < n → b < n → Beats better (t' a b) (e a b)
    step_direct a b p q = rw (made a b p q) (beats_trans laws (beats_left laws (t a b) (joined (t a k) (t k b))) (u.direct a b p q))

    -- What both parts of the next entry gain nothing by, the next entry gains nothing by.
    gather : (a v b : ℕ) → a < n → v < n → b < n →
        Beats better (relaxed joined better t k a b) (joined (e a v) (t v b)) →
        Beats better (relaxed joined better t k a b) (joined (e a v) (joined (t v k) (t k b))) →
        Beats better (t' a b) (joined (e a v) (t' v b))
    gather a v b p r q x y =
        rw (made a b p q, made v b r q, laws.joined_better (e a v) (t v b) (joined (t v k) (t k b))) (beats_better laws x y)

    below : (a v b : ℕ) → a < n → v < k → b < n → Beats better (t' a b) (joined (e a v) (t' v b))
    below a v b p r q =
        gather a v b p (omega arith) q
        (beats_trans laws (beats_left laws (t a b) (joined (t a k) (t k b))) (u.onward a v b p r q))
        (rw (← laws.joined_assoc (e a v) (t v k) (t k b))
        (beats_trans laws (beats_right laws (t a b) (joined (t a k) (t k b))) (joined_left laws (t k b) (u.onward a v k p r h))))

    at_k : (a b : ℕ) → a < n → b < n → Beats better (t' a b) (joined (e a k) (t' k b))
    at_k a b p q =
        let one : Beats better (relaxed joined better t k a b) (joined (e a k) (t k b)) =
        beats_trans laws (beats_right laws (t a b) (joined (t a k) (t k b))) (joined_left laws (t k b) (u.direct a k p h)) in
        gather a k b p h q one (beats_trans laws one (joined_right laws (e a k) (beats_after laws (t k k) (t k b))))

    step_onward : (a v b : ℕ) → a < n → v < k + 1 → b < n → Beats better (t' a b) (joined (e a v) (t' v b))
    step_onward a v b p r q =
        elim (cases_lt v k) [
          | inl l ↦ below a v b p l q
          | inr l ↦ let same : k ≡ v = omega arith in subst (λ w. Beats better (t' a b) (joined (e a w) (t' w b))) same (at_k a b p q)
        ]

    step_reached : (a b : ℕ) → a < n → b < n → Reached none joined n e a b (t' a b)
    step_reached a b p q =
        elim (laws.better_picks (t a b) (joined (t a k) (t k b))) [
          | inl l ↦ subst (Reached none joined n e a b) (sym (made a b p q ∙ l)) (u.reached a b p q)
          | inr l ↦ subst (Reached none joined n e a b) (sym (made a b p q ∙ l)) (through n e a k b (t a k) (t k b) h (u.reached a k p h) (u.reached k b h q))
        ]

    pub step : Upto none joined better n (k + 1) e t'
    step = record { direct = step_direct; onward = step_onward; reached = step_reached }

  finish_bound : (n : ℕ) (e t : ℕ → ℕ → W) → Upto none joined better n n e t → (a b : ℕ) (vs : List ℕ) → a < n → b < n → AllByRecursion (λ v. v < n) vs → Beats better (t a b) (weight joined e a vs b)
  finish_bound n e t u a b [] p q r = u.direct a b p q
  finish_bound n e t u a b (v ∷ vs) p q r =
      beats_trans laws (u.onward a v b p r.0 q) (joined_right laws (e a v) (finish_bound n e t u v b vs r.0 q r.1))

  pub finish : (n : ℕ) (e t : ℕ → ℕ → W) → Upto none joined better n n e t → Settled none joined better n e t
  finish n e t u = record { bound = finish_bound n e t u; reached = u.reached }
