-- No two answers fit one search.
use Rattle.std.proofs.Common.{◌≡◌, ℕ, List, [], ◌∷◌, ◌++◌, length, drop, Ok, Result, sym, refl, ap, ◌∙◌, inl, inr, arith}
use Rattle.cycles.specs.Cycles.{NotAfter}
use Rattle.graph.specs.declared.event.Event.{Event}
use Rattle.graph.specs.declared.refusal.Refused.{Refused}
use Rattle.profiles.specs.Meaning.{Meaning}
use Rattle.searching.specs.Searching.{Few, Many, LawfulOrder, FirstGood, Searches, short, many, source, unlawful, found, none}
use Rattle.searching.specs.declared.answer.Answer.{Answer}

same_first : (p q : List ℕ) → NotAfter p q → NotAfter q p → p ≡ q
same_first [] [] h k = refl
same_first [] (y ∷ q) h k = absurd k
same_first (x ∷ p) [] h k = absurd h
same_first (x ∷ p) (y ∷ q) h k =
    elim h [
      | inl a ↦ elim k [ inl c ↦ absurd (omega arith) | inr c ↦ absurd (omega (arith, c.0)) ]
      | inr a ↦ elim k [
        | inl c ↦ absurd (omega (arith, a.0))
        | inr c ↦ ap (λ z. z ∷ p) a.0 ∙ ap (λ z. y ∷ z) (same_first p q a.1 c.1)
      ]
    ]

module _ (m : Meaning) (es : List Event) where
  not_both : Few m es → Many m es → ⊥
  not_both f g =
      let one = f.1.0.every g.1.0.events g.1.0.pushing.order in
      omega (arith, g.1.0.count, f.1.1, g.1.1)

  good_lawful : (L : List ℕ) → FirstGood m es L → LawfulOrder m es L
  good_lawful L f = record { push_order = f.good.push_order; lawful = f.good.lawful }

  module _ (old new new' : List ℕ) (r r' : Result Answer Refused) where
    pub unique : Searches m es old new r → Searches m es old new' r' → (r' ≡ r) × (new' ≡ new)
    unique (short h e k) (short h' e' k') = (e' ∙ sym e, k' ∙ sym k)
    unique (short h e k) (many h' a e' k') = absurd (omega arith)
    unique (short h e k) (source h' f s e' k') = absurd (omega arith)
    unique (short h e k) (unlawful h' f s n e' k') = absurd (omega arith)
    unique (short h e k) (found h' f s L g e' k') = absurd (omega arith)
    unique (short h e k) (none h' f s L l c e' k') = absurd (omega arith)
    unique (many h a e k) (short h' e' k') = absurd (omega arith)
    unique (many h a e k) (many h' a' e' k') = (e' ∙ sym e, k' ∙ sym k)
    unique (many h a e k) (source h' f s e' k') = absurd (not_both f a)
    unique (many h a e k) (unlawful h' f s n e' k') = absurd (not_both f a)
    unique (many h a e k) (found h' f s L g e' k') = absurd (not_both f a)
    unique (many h a e k) (none h' f s L l c e' k') = absurd (not_both f a)
    unique (source h f s e k) (short h' e' k') = absurd (omega arith)
    unique (source h f s e k) (many h' a e' k') = absurd (not_both f a)
    unique (source h f s e k) (source h' f' s' e' k') = (e' ∙ sym e, k' ∙ sym k)
    unique (source h f s e k) (unlawful h' f' s' n e' k') = absurd (s' s)
    unique (source h f s e k) (found h' f' s' L g e' k') = absurd (s' s)
    unique (source h f s e k) (none h' f' s' L l c e' k') = absurd (s' s)
    unique (unlawful h f s n e k) (short h' e' k') = absurd (omega arith)
    unique (unlawful h f s n e k) (many h' a e' k') = absurd (not_both f a)
    unique (unlawful h f s n e k) (source h' f' s' e' k') = absurd (s s')
    unique (unlawful h f s n e k) (unlawful h' f' s' n' e' k') = (e' ∙ sym e, k' ∙ sym k)
    unique (unlawful h f s n e k) (found h' f' s' L g e' k') = absurd (n L (good_lawful L g))
    unique (unlawful h f s n e k) (none h' f' s' L l c e' k') = absurd (n L l)
    unique (found h f s L g e k) (short h' e' k') = absurd (omega arith)
    unique (found h f s L g e k) (many h' a e' k') = absurd (not_both f a)
    unique (found h f s L g e k) (source h' f' s' e' k') = absurd (s s')
    unique (found h f s L g e k) (unlawful h' f' s' n e' k') = absurd (n L (good_lawful L g))
    unique (found h f s L g e k) (found h' f' s' M g' e' k') =
        let same : M ≡ L = same_first M L (g'.first L g.good) (g.first M g'.good) in
        (e' ∙ ap (λ P. Ok (Answer.Found (length P))) same ∙ sym e, k' ∙ ap (λ P. P ++ drop (length P) old) same ∙ sym k)
    unique (found h f s L g e k) (none h' f' s' M l c e' k') = absurd (g.good.clear (c L (good_lawful L g)))
    unique (none h f s L l c e k) (short h' e' k') = absurd (omega arith)
    unique (none h f s L l c e k) (many h' a e' k') = absurd (not_both f a)
    unique (none h f s L l c e k) (source h' f' s' e' k') = absurd (s s')
    unique (none h f s L l c e k) (unlawful h' f' s' n e' k') = absurd (n L l)
    unique (none h f s L l c e k) (found h' f' s' M g e' k') = absurd (g.good.clear (c M (good_lawful M g)))
    unique (none h f s L l c e k) (none h' f' s' M l' c' e' k') = (e' ∙ sym e, k' ∙ sym k)
