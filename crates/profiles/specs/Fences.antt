-- The tests of a code decide what they say.
use Rattle.std.proofs.Common.{arith, ap}
use Rattle.std.specs.Prelude.{◌≡◌, Bool, true, Decides}
use Rattle.graph.specs.declared.code.Code.{Code}
use Rattle.graph.specs.declared.code.Code.TheVariants.{Fence}
use Rattle.graph.specs.declared.code.FenceMode.{FenceMode}
use Rattle.profiles.specs.Modes.{is_release_fence, is_acquire_fence, is_sc_fence}

pub release_decides : (c : Code) → Decides (is_release_fence c) (c ≡ Fence FenceMode.Rel)
release_decides c = (λ e. grind arith, λ e. ap is_release_fence e)

pub acquire_decides : (c : Code) → Decides (is_acquire_fence c) (c ≡ Fence FenceMode.Acq)
acquire_decides c = (λ e. grind arith, λ e. ap is_acquire_fence e)

pub sc_fence_decides : (c : Code) → Decides (is_sc_fence c) (c ≡ Fence FenceMode.Sc)
sc_fence_decides c = (λ e. grind arith, λ e. ap is_sc_fence e)

-- a test by its own outcome
pub itself : (r : Bool) → Decides r (r ≡ true)
itself r = (λ e. e, λ e. e)
