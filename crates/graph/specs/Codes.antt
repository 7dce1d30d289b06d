-- Codes: what an event is, and its mode.
--
--   codes        every code, in the order of its number: 0 to 3 are the reads na, rlx, acq, sc,
--                4 to 7 the writes na, rlx, rel, sc, 8 to 10 the fences acq, rel, sc
--   numbered n   the code of number n, or the refusal of a number that is too high
--   is_read, is_write, is_fence   the kind of a code
--   is_access    a read or a write
use Rattle.std.specs.Prelude.{ℕ, Bool, true, false, List, [], ◌∷◌, Result}
use Rattle.std.specs.List.{slice_get}
use Rattle.std.specs.Option.{ok_or}
use Rattle.graph.specs.declared.code.Code.{Code}
use Rattle.graph.specs.declared.code.Code.TheVariants.{Read, Write, Fence}
use Rattle.graph.specs.declared.code.ReadMode.{ReadMode}
use Rattle.graph.specs.declared.code.WriteMode.{WriteMode}
use Rattle.graph.specs.declared.code.FenceMode.{FenceMode}
use Rattle.graph.specs.declared.refusal.Refusal.{Refusal}

abbrev pub codes : List Code
codes =
    Read ReadMode.Na ∷ Read ReadMode.Rlx ∷ Read ReadMode.Acq ∷ Read ReadMode.Sc ∷
    Write WriteMode.Na ∷ Write WriteMode.Rlx ∷ Write WriteMode.Rel ∷ Write WriteMode.Sc ∷
    Fence FenceMode.Acq ∷ Fence FenceMode.Rel ∷ Fence FenceMode.Sc ∷ []

abbrev pub numbered : ℕ → Result Code Refusal
numbered n = ok_or (slice_get codes n) Refusal.CodeTooHigh

abbrev pub is_read : Code → Bool
is_read (Read m) = true
is_read (Write m) = false
is_read (Fence m) = false

abbrev pub is_write : Code → Bool
is_write (Read m) = false
is_write (Write m) = true
is_write (Fence m) = false

abbrev pub is_fence : Code → Bool
is_fence (Read m) = false
is_fence (Write m) = false
is_fence (Fence m) = true

abbrev pub is_access : Code → Bool
is_access (Read m) = true
is_access (Write m) = true
is_access (Fence m) = false
