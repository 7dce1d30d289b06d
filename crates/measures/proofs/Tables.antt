-- Entries of a table that is kept row by row.
use Rattle.std.proofs.Common.{◌≡◌, ℕ, ◌+◌, ◌*◌, ◌/◌, ◌%◌, ◌<◌, ◌≢◌, List, ◌++◌, map, take, drop, length, get_or, set, sym, ap, ◌∙◌}
use lib.ListN.{length-map}
use lib.Arith.{digits_lt, digits_div, digits_mod}
use Rattle.std.proofs.lemmas.List.{get_or-map, get_or-set_same, get_or-set_other, get_or_append_left, get_or-append-add, get_or-take, get_or-drop, map-set, map-append, take-map, drop-map}
use Rattle.measures.specs.Paths.{entry}
use Rattle.measures.specs.Rounds.{cell}

pub place_in : {n a b : ℕ} → a < n → b < n → a * n + b < n * n
place_in p q = digits_lt p q

-- Two entries stand at two places.
pub place_other : (n a b c d : ℕ) → b < n → d < n → (a ≡ c → b ≡ d → ⊥) → a * n + b ≢ c * n + d
place_other n a b c d q s apart same =
    apart
    (sym (digits_div a q) ∙ ap (λ p. p / n) same ∙ digits_div c s)
    (sym (digits_mod a q) ∙ ap (λ p. p % n) same ∙ digits_mod c s)

module _ {V W : Type 0} (means : V → W) (none : W) where
  pub cell_is : (xs : List V) (j : ℕ) (d : V) → j < length xs → cell means none xs j ≡ means (get_or xs j d)
  cell_is xs j d h = get_or-map means xs j d none h

  pub cell_read : (xs : List V) (j : ℕ) (x : V) → j < length xs → x ≡ get_or xs j x → cell means none xs j ≡ means x
  cell_read xs j x h read = cell_is xs j x h ∙ ap means (sym read)

  pub cell_set_same : (xs : List V) (j : ℕ) (x : V) → j < length xs → cell means none (set xs j x) j ≡ means x
  cell_set_same xs j x h =
      ap (λ ys. get_or ys j none) (map-set means xs j x) ∙ get_or-set_same (map means xs) j (means x) none (rw (length-map xs means) h)

  pub cell_set_other : (xs : List V) (j k : ℕ) (x : V) → k ≢ j → cell means none (set xs j x) k ≡ cell means none xs k
  cell_set_other xs j k x apart =
      ap (λ ys. get_or ys k none) (map-set means xs j x) ∙ get_or-set_other (map means xs) j k (means x) none apart

  pub cell_left : (xs ys : List V) (j : ℕ) → j < length xs → cell means none (xs ++ ys) j ≡ cell means none xs j
  cell_left xs ys j h =
      ap (λ zs. get_or zs j none) (map-append means xs ys) ∙ get_or_append_left (map means xs) (map means ys) none j (rw (length-map xs means) h)

  pub cell_right : (xs ys : List V) (n i j : ℕ) → length xs ≡ n → i ≡ n + j → cell means none (xs ++ ys) i ≡ cell means none ys j
  cell_right xs ys n i j long at =
      ap (λ zs. get_or zs i none) (map-append means xs ys)
      ∙ ap (λ m. get_or (map means xs ++ map means ys) m none) (at ∙ ap (λ m. m + j) (sym (length-map xs means ∙ long)))
      ∙ get_or-append-add (map means xs) (map means ys) j none

  -- The parts of a list: its front, a part behind that, and what stands behind the part.
  pub cell_front : (xs : List V) (p j : ℕ) → j < p → cell means none (take p xs) j ≡ cell means none xs j
  cell_front xs p j h = ap (λ ys. get_or ys j none) (sym (take-map means p xs)) ∙ get_or-take p (map means xs) j none h

  cell_behind : (xs : List V) (p j : ℕ) → cell means none (drop p xs) j ≡ cell means none xs (p + j)
  cell_behind xs p j = ap (λ ys. get_or ys j none) (sym (drop-map means p xs)) ∙ get_or-drop p (map means xs) j none

  pub cell_part : (xs : List V) (p w j : ℕ) → j < w → cell means none (take w (drop p xs)) j ≡ cell means none xs (p + j)
  cell_part xs p w j h = cell_front (drop p xs) w j h ∙ cell_behind xs p j

  pub cell_after : (xs : List V) (p w j : ℕ) → cell means none (drop w (drop p xs)) j ≡ cell means none xs (p + (w + j))
  cell_after xs p w j = cell_behind (drop p xs) w j ∙ cell_behind xs p (w + j)

-- A write to one entry leaves every other.
pub entry_set_other : {V W : Type 0} (means : V → W) (none : W) (n : ℕ) (xs : List V) (a b c d : ℕ) (x : V) → b < n → d < n → (c ≡ a → d ≡ b → ⊥) →
    entry means none n (set xs (a * n + b) x) c d ≡ entry means none n xs c d
entry_set_other means none n xs a b c d x q s apart = cell_set_other means none xs (a * n + b) (c * n + d) x (place_other n c d a b s q apart)

-- An entry of a square table, at a default.
pub entry_is : {V W : Type 0} (means : V → W) (none : W) (n : ℕ) (xs : List V) (a b : ℕ) (d : V) → length xs ≡ n * n → a < n → b < n →
    entry means none n xs a b ≡ means (get_or xs (a * n + b) d)
entry_is means none n xs a b d square p q = cell_is means none xs (a * n + b) d (rw square (place_in p q))
