-- What is found by one account of what fails is found by another that agrees on the orders.
use Rattle.std.proofs.Common.{ℕ, List, take, Some, None, Option}
use Rattle.orders.specs.Orders.{Order, Found}
use Rattle.orders.specs.declared.precedence.Precedence.{Precedence}

module _ (b : Precedence) (F G : List ℕ → Type 0) (to : (q : List ℕ) → Order b q → F q → G q) (from : (q : List ℕ) → Order b q → G q → F q) where
  pub found_like : (r : Option (List ℕ)) → Found b F r → Found b G r
  found_like None all = λ q o. to q o (all q o)
  found_like (Some out) found =
      let best = found.front in
      record {
        front = record {
          passing = record { order = best.passing.order; passes = λ g. best.passing.passes (from (take b.count out) best.passing.order g) };
          first = λ p h. best.first p (record { order = h.order; passes = λ f. h.passes (to p h.order f) });
        };
        rest = found.rest;
      }
