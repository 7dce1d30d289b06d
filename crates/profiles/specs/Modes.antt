-- Codes by their mode.
--
--   marks c              an access of mode sc, rel or acq
--   is_sc_access c       an access of mode sc
--   is_release_fence, is_acquire_fence, is_sc_fence   a fence of that mode
use Rattle.std.specs.Prelude.{Bool, true, false}
use Rattle.graph.specs.declared.code.Code.{Code}
use Rattle.graph.specs.declared.code.Code.TheVariants.{Read, Write, Fence}
use Rattle.graph.specs.declared.code.ReadMode.{ReadMode}
use Rattle.graph.specs.declared.code.WriteMode.{WriteMode}
use Rattle.graph.specs.declared.code.FenceMode.{FenceMode}

abbrev pub marks : Code → Bool
marks (Read ReadMode.Na) = false
marks (Read ReadMode.Rlx) = false
marks (Read ReadMode.Acq) = true
marks (Read ReadMode.Sc) = true
marks (Write WriteMode.Na) = false
marks (Write WriteMode.Rlx) = false
marks (Write WriteMode.Rel) = true
marks (Write WriteMode.Sc) = true
marks (Fence m) = false

abbrev pub is_sc_access : Code → Bool
is_sc_access (Read ReadMode.Na) = false
is_sc_access (Read ReadMode.Rlx) = false
is_sc_access (Read ReadMode.Acq) = false
is_sc_access (Read ReadMode.Sc) = true
is_sc_access (Write WriteMode.Na) = false
is_sc_access (Write WriteMode.Rlx) = false
is_sc_access (Write WriteMode.Rel) = false
is_sc_access (Write WriteMode.Sc) = true
is_sc_access (Fence m) = false

abbrev pub is_release_fence : Code → Bool
is_release_fence (Read m) = false
is_release_fence (Write m) = false
is_release_fence (Fence FenceMode.Acq) = false
is_release_fence (Fence FenceMode.Rel) = true
is_release_fence (Fence FenceMode.Sc) = false

abbrev pub is_acquire_fence : Code → Bool
is_acquire_fence (Read m) = false
is_acquire_fence (Write m) = false
is_acquire_fence (Fence FenceMode.Acq) = true
is_acquire_fence (Fence FenceMode.Rel) = false
is_acquire_fence (Fence FenceMode.Sc) = false

abbrev pub is_sc_fence : Code → Bool
is_sc_fence (Read m) = false
is_sc_fence (Write m) = false
is_sc_fence (Fence FenceMode.Acq) = false
is_sc_fence (Fence FenceMode.Rel) = false
is_sc_fence (Fence FenceMode.Sc) = true
