-- Sheets that pass. Throughout, es are the added events, and m is what a profile means.
--
--   Passes m es bs    the bytes bs are those of a sheet that is true of the graph
--   Decided P cs r    what some checks cs answer where they pass exactly if P holds: r passes and P holds, or r is the refusal of
--                     the first check that gives one
use Rattle.std.specs.Prelude.{◌≡◌, ℕ, List, Err, Result, MatchResult}
use Rattle.graph.specs.declared.event.Event.{Event}
use Rattle.graph.specs.declared.refusal.Refused.{Refused}
use Rattle.profiles.specs.Meaning.{Meaning}
use Rattle.sheets.specs.Checks.{FirstOf}
use Rattle.sheets.specs.Sheets.{Sheet, encode}
use Rattle.sheets.specs.Truth.{TrueOf}

pub record Passes (m : Meaning) (es : List Event) (bs : List ℕ) : Type 0 where
  pub sheet : Sheet
  pub encoded : bs ≡ encode sheet
  pub true_of : TrueOf m es sheet

abbrev pub Decided : Type 0 → List (Refused → Type 0) → Result (Unit {0}) Refused → Type 0
Decided P cs r = MatchResult r (λ _. P) (λ e. FirstOf {X = Unit {0}} cs (Err e))
