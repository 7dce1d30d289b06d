-- A table at the front of a longer list.
use Rattle.std.proofs.Common.{◌≡◌, ℕ, ◌+◌, ◌*◌, ◌<◌, ◌≤◌, List, ◌++◌, length, get_or, take, Decides, sym, ap, ◌∙◌, subst, mul-le-mul, arith}
use lib.Arith.{digits_lt}
use Rattle.std.proofs.lemmas.List.{get_or_append_left, get_or-take, length-take-le, take-append-le}
use Rattle.std.proofs.lemmas.Bool.Decides.{Decides-like}
use Rattle.measures.specs.Reach.{yes}
use Rattle.measures.specs.Walks.{at, Leads, Yes, Reachable}
use Rattle.cycles.proofs.Carrying.{leads_carries}
use Rattle.axioms.specs.Tables.{Drawn}

pub square_fits : (n : ℕ) → n ≤ 64 → n * n ≤ 4096
square_fits n h = mul-le-mul h h

-- The front tells what the table does.
module _ (n k : ℕ) (xs : List ℕ) (all : k ≡ n * n) where
  pub front_drawn : (R : ℕ → ℕ → Type 0) → Drawn R n xs → Drawn R n (take k xs)
  front_drawn R drawn a b p q =
      let within : a * n + b < k = rw all (digits_lt p q) in
      subst (λ w. Decides (yes w) (R a b)) (sym (get_or-take k xs (a * n + b) 0 within)) (drawn a b p q)

-- A table that tells a relation does so at the front of a longer list too.
pub longer_drawn : (R : ℕ → ℕ → Type 0) (n : ℕ) (xs ys zs : List ℕ) → zs ≡ xs ++ ys → length xs ≡ n * n → Drawn R n xs → Drawn R n zs
longer_drawn R n xs ys zs is long drawn a b p q =
    let within : a * n + b < length xs = rw long (digits_lt p q) in
    let same : get_or zs (a * n + b) 0 ≡ get_or xs (a * n + b) 0 = ap (λ l. get_or l (a * n + b) 0) is ∙ get_or_append_left xs ys 0 (a * n + b) within in
    subst (λ w. Decides (yes w) (R a b)) (sym same) (drawn a b p q)

pub longer_front : (k : ℕ) (xs ys : List ℕ) → length xs ≡ k → length (take k (xs ++ ys)) ≡ k
longer_front k xs ys long = ap length (take-append-le k xs ys (omega arith)) ∙ length-take-le k xs (omega arith)

-- The steps of a table are those of its front, and settling the front settles the table.
module _ (n k : ℕ) (xs ys zs rest : List ℕ) (all : k ≡ n * n) (is : zs ≡ ys ++ rest) (long : length ys ≡ n * n) where
  pub front_reach : Reachable n (take k xs) ys → Reachable n xs zs
  front_reach reach a b p q =
      let same : (c d : ℕ) → c < n → d < n → at n (take k xs) c d ≡ at n xs c d = λ c d r s.
      get_or-take k xs (c * n + d) 0 (rw all (digits_lt r s)) in
      let to : (c d : ℕ) → Yes n (take k xs) c d → Yes n xs c d = λ c d y.
      record { row = y.row; column = y.column; is_yes = ap yes (sym (same c d y.row y.column)) ∙ y.is_yes } in
      let from : (c d : ℕ) → Yes n xs c d → Yes n (take k xs) c d = λ c d y.
      record { row = y.row; column = y.column; is_yes = ap yes (same c d y.row y.column) ∙ y.is_yes } in
      Decides-like (yes (at n zs a b)) (leads_carries (Yes n (take k xs)) (Yes n xs) to b a) (leads_carries (Yes n xs) (Yes n (take k xs)) from b a)
      (longer_drawn (Leads (Yes n (take k xs))) n ys rest zs is long reach a b p q)
