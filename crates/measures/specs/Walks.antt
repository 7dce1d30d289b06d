-- What a settled table says of paths, at each measure.
--
--   Leads R a b         steps of R lead from a to b, one or more
--   Yes n xs            the steps of a yes/no table of side n: the entries that are yes
--   Reachable n xs ys   an entry of ys is yes exactly where yes entries of xs lead from its row to its column
--   Counts n xs a b k   the entry in row a and column b of a table of step counts is k, at most 64
--   Walks n xs a b k    entries of xs lead from a to b, and add up to k steps
--   Fewest n xs ys      an entry of ys is the fewest steps that lead from its row to its column;
--                       it is above 64 where no walk of at most 64 steps leads there
use Rattle.std.specs.Prelude.{◌≡◌, ℕ, ◌+◌, ◌*◌, ◌<◌, ◌≤◌, true, List, Decides, slice_index}
use Rattle.measures.specs.Reach.{yes}

-- what stands in row a and column b
abbrev pub at : ℕ → List ℕ → ℕ → ℕ → ℕ
at n xs a b = slice_index xs (a * n + b)

pub data LeadsTo (R : ℕ → ℕ → Type 0) (b : ℕ) : ℕ → Type 0 where
  last : {a : ℕ} → R a b → LeadsTo R b a
  more : {a v : ℕ} → R a v → LeadsTo R b v → LeadsTo R b a

abbrev pub Leads : (ℕ → ℕ → Type 0) → ℕ → ℕ → Type 0
Leads R a b = LeadsTo R b a

pub record Yes (n : ℕ) (xs : List ℕ) (a b : ℕ) : Type 0 where
  pub row : a < n
  pub column : b < n
  pub is_yes : yes (at n xs a b) ≡ true

abbrev pub Reachable : ℕ → List ℕ → List ℕ → Type 0
Reachable n xs ys = (a b : ℕ) → a < n → b < n → Decides (yes (at n ys a b)) (Leads (Yes n xs) a b)

pub record Counts (n : ℕ) (xs : List ℕ) (a b k : ℕ) : Type 0 where
  pub row : a < n
  pub column : b < n
  pub count : at n xs a b ≡ k
  pub some : k ≤ 64

pub data WalksTo (n : ℕ) (xs : List ℕ) (b : ℕ) : ℕ → ℕ → Type 0 where
  last : {a k : ℕ} → Counts n xs a b k → WalksTo n xs b a k
  more : {a v k l m : ℕ} → Counts n xs a v k → WalksTo n xs b v l → k + l ≡ m → WalksTo n xs b a m

abbrev pub Walks : ℕ → List ℕ → ℕ → ℕ → ℕ → Type 0
Walks n xs a b k = WalksTo n xs b a k

pub record Fewest (n : ℕ) (xs ys : List ℕ) : Type 0 where
  pub walked : (a b : ℕ) → a < n → b < n → at n ys a b ≤ 64 → Walks n xs a b (at n ys a b)
  pub fewest : (a b k : ℕ) → Walks n xs a b k → k ≤ 64 → at n ys a b ≤ k
