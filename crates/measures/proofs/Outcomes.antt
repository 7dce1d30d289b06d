-- What settling answers, read in other words.
use Rattle.std.proofs.Common.{◌≡◌, ℕ, ◌*◌, List, length, Ok, Err, Result, ◌∙◌}
use Rattle.measures.specs.declared.settling.Refusal.{Refusal}
use Rattle.measures.specs.Outcome.{Either, Outcome}
use Rattle.measures.specs.Paths.{entry, Settled}

module _ {V W : Type 0} (none : W) (joined better : W → W → W) (means : V → W) (G : ℕ → List V → List V → Type 0)
    (reads : (n : ℕ) (xs ys : List V) → length xs ≡ n * n → length ys ≡ n * n → Settled none joined better n (entry means none n xs) (entry means none n ys) → G n xs ys)
  where
    pub reads_as : (n : ℕ) (xs ys : List V) (r : Result (Unit {0}) Refusal) → length ys ≡ length xs → Outcome none joined better means n xs ys r → Either G n xs ys r
    reads_as n xs ys (Ok u) long h = (h.0, reads n xs ys h.0.1 (long ∙ h.0.1) h.1)
    reads_as n xs ys (Err e) long h = h
