-- What a call from C answers.
--
--   status_of         0 for done, else the refusal's number
--   Status F n xs ys  the status of a call that turned xs into ys: 0 where the table was square and became as F says,
--                     the number of the refusal where it is not square and untouched
use Rattle.std.specs.Prelude.{◌≡◌, ℕ, List, Ok, Err, Result}
use Rattle.measures.specs.declared.settling.Refusal.{Refusal}
use Rattle.measures.specs.Outcome.{Either, number}

abbrev pub status_of : Result (Unit {0}) Refusal → ℕ
status_of (Ok done) = 0
status_of (Err refusal) = number refusal

abbrev pub Status : (ℕ → List ℕ → List ℕ → Type 0) → ℕ → List ℕ → List ℕ → ℕ → Type 0
Status F n xs ys r = (outcome : Result (Unit {0}) Refusal) × (r ≡ status_of outcome) × Either F n xs ys outcome
