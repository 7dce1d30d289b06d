-- Counted sections of the bytes bs. A section has its count, one byte, at the place start, and behind that as many
-- entries of size bytes each. Entries are numbered from 1.
--
--   count bs start              the count
--   entry_end start size k      the place behind entry k; at 0, where the first entry begins
--   Missing bs start            the bytes end before the count
--   CutAt bs start size k       entry k is the first that is not whole
--   Whole bs start size s       every entry is whole, and s tells their count and the place behind the last
--   Sectioned bs start size r   what cutting the section out answers: how it is whole, or where the bytes end
--   entry_number c              the number of the entry that a cut is told by: 0 for a missing count
use Rattle.std.specs.Prelude.{◌≡◌, ℕ, ◌+◌, ◌*◌, ◌<◌, ◌≤◌, List, length, Result, MatchResult, slice_index}
use Rattle.sections.specs.declared.Section.{Section}
use Rattle.sections.specs.declared.Cut.{Cut}
use Rattle.sections.specs.declared.Cut.TheVariants.{NoCount, InEntry}

abbrev pub count : List ℕ → ℕ → ℕ
count bs start = slice_index bs start

abbrev pub entry_end : ℕ → ℕ → ℕ → ℕ
entry_end start size k = start + 1 + k * size

abbrev pub Missing : List ℕ → ℕ → Type 0
Missing bs start = length bs ≤ start

pub record CutAt (bs : List ℕ) (start size k : ℕ) : Type 0 where
  pub counted : start < length bs
  pub listed : (1 ≤ k) × (k ≤ count bs start)
  pub earlier_whole : (j : ℕ) → j < k → entry_end start size j ≤ length bs
  pub not_whole : length bs < entry_end start size k

pub record Whole (bs : List ℕ) (start size : ℕ) (s : Section) : Type 0 where
  pub counted : start < length bs
  pub told : s.count ≡ count bs start
  pub ends : s.end ≡ entry_end start size (count bs start)
  pub within : s.end ≤ length bs

abbrev pub Ended : List ℕ → ℕ → ℕ → Cut → Type 0
Ended bs start size NoCount = Missing bs start
Ended bs start size (InEntry k) = CutAt bs start size k

abbrev pub Sectioned : List ℕ → ℕ → ℕ → Result Section Cut → Type 0
Sectioned bs start size r = MatchResult r (Whole bs start size) (Ended bs start size)

abbrev pub entry_number : Cut → ℕ
entry_number NoCount = 0
entry_number (InEntry k) = k
