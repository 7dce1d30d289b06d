-- What writing a sheet answers. The buffer held old before the call and holds new after it.
--
--   NoRoom s old         the buffer is below 384 bytes, or the sheet is larger than any that judging makes: more than
--                        56 events are listed, or there are more than 64 steps
--   Wrote s old new n    the sheet stands at the front, n is its length, and the rest is as it was
--   Written s old new r  what `write_sheet` answers
use Rattle.std.specs.Prelude.{◌≡◌, ℕ, ◌<◌, ◌⊎◌, List, ◌++◌, length, drop, Result, MatchResult}
use Rattle.graph.specs.declared.refusal.Refused.{Refused}
use Rattle.graph.specs.declared.refusal.Refusal.TheVariants.{BufferTooShort}
use Rattle.graph.specs.Refusals.{plain}
use Rattle.sheets.specs.Sheets.{Sheet, encode}

abbrev pub NoRoom : Sheet → List ℕ → Type 0
NoRoom s old = (length old < 384) ⊎ ((56 < length s.order) ⊎ (64 < length s.steps))

pub record Wrote (s : Sheet) (old new : List ℕ) (n : ℕ) : Type 0 where
  pub room : NoRoom s old → ⊥
  pub told : n ≡ length (encode s)
  pub front : new ≡ encode s ++ drop n old

pub record NotWritten (s : Sheet) (old new : List ℕ) (e : Refused) : Type 0 where
  pub no_room : NoRoom s old
  pub refusal : e ≡ plain BufferTooShort
  pub untouched : new ≡ old

abbrev pub Written : Sheet → List ℕ → List ℕ → Result ℕ Refused → Type 0
Written s old new r = MatchResult r (Wrote s old new) (NotWritten s old new)
