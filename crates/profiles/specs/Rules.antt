-- The four rules of JAM21, as relations. In all of them a precedes b in program order; a and b are
-- any events, fences too.
--
--   Marked es n     n is an added access of mode sc, rel or acq
--   Within es a n b   n stands at a, at b, or between them
--   Ra es a b       an added access of mode sc, rel or acq stands at a, at b, or between them
--   Svo es a b      strictly between them stand, in this order, a release fence, an access and an
--                   acquire fence
--   Spush es a b    an sc fence stands strictly between them
--   Volint es a b   both are sc accesses
--   Kept es a b     a is kept before b: by one of the four
--   Pushed es a b   a is pushed to b: by spush or volint, and a is an added event
use Rattle.std.specs.Prelude.{◌≡◌, ℕ, ◌≤◌, true, ◌⊎◌, List}
use Rattle.graph.specs.declared.code.Code.TheVariants.{Fence}
use Rattle.graph.specs.declared.code.FenceMode.{FenceMode}
use Rattle.graph.specs.declared.event.Event.{Event}
use Rattle.graph.specs.Codes.{is_access}
use Rattle.graph.specs.Events.{event, Added}
use Rattle.graph.specs.Order.{Po}
use Rattle.profiles.specs.Modes.{marks, is_sc_access}
use Rattle.profiles.specs.Segments.{Between}

pub record Marked (es : List Event) (n : ℕ) : Type 0 where
  pub added : Added es n
  pub mode : marks (event es n).code ≡ true

abbrev pub Within : List Event → ℕ → ℕ → ℕ → Type 0
Within es a n b = (n ≡ a) ⊎ ((n ≡ b) ⊎ Between es a n b)

abbrev pub Ra : List Event → ℕ → ℕ → Type 0
Ra es a b = Po es a b × ((n : ℕ) × Within es a n b × Marked es n)

pub record Svo (es : List Event) (a b : ℕ) : Type 0 where
  pub ordered : Po es a b
  pub release : ℕ
  pub access : ℕ
  pub acquire : ℕ
  pub after_a : Po es a release
  pub then_access : Po es release access
  pub then_acquire : Po es access acquire
  pub before_b : Po es acquire b
  pub is_release : (event es release).code ≡ Fence FenceMode.Rel
  pub is_an_access : is_access (event es access).code ≡ true
  pub is_acquire : (event es acquire).code ≡ Fence FenceMode.Acq

abbrev pub Spush : List Event → ℕ → ℕ → Type 0
Spush es a b = Po es a b × ((n : ℕ) × Between es a n b × ((event es n).code ≡ Fence FenceMode.Sc))

abbrev pub Volint : List Event → ℕ → ℕ → Type 0
Volint es a b = Po es a b × ((is_sc_access (event es a).code ≡ true) × (is_sc_access (event es b).code ≡ true))

abbrev pub Kept : List Event → ℕ → ℕ → Type 0
Kept es a b = Ra es a b ⊎ (Svo es a b ⊎ (Spush es a b ⊎ Volint es a b))

abbrev pub Pushed : List Event → ℕ → ℕ → Type 0
Pushed es a b = (8 ≤ a) × (Spush es a b ⊎ Volint es a b)
