-- Total store order.
--
--   Fenced es a b    an sc fence stands strictly between a and b
--   delayed c d      a write before a read, which a store buffer may hold back
--   Kept es a b      a is kept before b: a precedes b in program order, and the pair is not a write
--                    before a read, or it is fenced
--   Pushed es a b    a is pushed to b: a precedes b in program order, a is an added event, and the
--                    pair is fenced
--   fenced, keep, push   the tests of a segment
--   tso              the profile
--   Rules-stand      the tests decide the relations, in every list of events
use Rattle.std.specs.Prelude.{◌≡◌, ℕ, ◌≤◌, Bool, false, not, ◌&&◌, ◌||◌, ◌⊎◌, List, Decides}
use Rattle.graph.specs.declared.code.Code.{Code}
use Rattle.graph.specs.declared.code.Code.TheVariants.{Fence}
use Rattle.graph.specs.declared.code.FenceMode.{FenceMode}
use Rattle.graph.specs.declared.event.Event.{Event}
use Rattle.graph.specs.Codes.{is_read, is_write}
use Rattle.graph.specs.Events.{event}
use Rattle.graph.specs.Order.{Po}
use Rattle.profiles.specs.Meaning.{Meaning}
use Rattle.profiles.specs.Modes.{is_sc_fence}
use Rattle.profiles.specs.Patterns.{any}
use Rattle.profiles.specs.Segments.{Between, Segment, inner_codes, by_segment}

abbrev pub Fenced : List Event → ℕ → ℕ → Type 0
Fenced es a b = (n : ℕ) × Between es a n b × ((event es n).code ≡ Fence FenceMode.Sc)

abbrev pub delayed : Code → Code → Bool
delayed c d = is_write c && is_read d

abbrev pub Kept : List Event → ℕ → ℕ → Type 0
Kept es a b = Po es a b × ((delayed (event es a).code (event es b).code ≡ false) ⊎ Fenced es a b)

abbrev pub Pushed : List Event → ℕ → ℕ → Type 0
Pushed es a b = (8 ≤ a) × (Po es a b × Fenced es a b)

abbrev pub fenced : Segment → Bool
fenced s = any is_sc_fence (inner_codes s)

abbrev pub keep : Segment → Bool
keep s = not (delayed s.first.code s.last.code) || fenced s

abbrev pub tso : Meaning
tso = by_segment keep fenced

abbrev pub Rules-stand : Type 0
Rules-stand = (es : List Event) (a b : ℕ) → Decides (tso.kept es a b) (Kept es a b) × Decides (tso.pushed es a b) (Pushed es a b)
