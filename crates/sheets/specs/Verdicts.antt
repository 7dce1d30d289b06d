-- What a sheet says of a graph.
--
--   number v       the number of a verdict, as sheets have it
--   Numbered n r   r is the verdict of the number n; where no verdict has it, r is the error that names n
--   Belongs v x    the rule x can stand in a sheet of the verdict v: the first two rules belong to source cycles, the
--                  rules of coherence to coherence cycles
use Rattle.std.specs.Prelude.{◌≡◌, ℕ, true, false, Result, MatchResult, ◌≢◌}
use Rattle.axioms.specs.Rules.{is_coherence}
use Rattle.axioms.specs.declared.rule.Rule.{Rule}
use Rattle.sheets.specs.declared.verdict.Verdict.{Verdict}
use Rattle.sheets.specs.declared.verdict.Verdict.TheVariants.{Clear, SourceCycle, CoherenceCycle}
use Rattle.sheets.specs.declared.verdict.UnknownVerdict.{UnknownVerdict}

abbrev pub number : Verdict → ℕ
number Clear = 0
number SourceCycle = 1
number CoherenceCycle = 2

abbrev pub Numbered : ℕ → Result Verdict UnknownVerdict → Type 0
Numbered n r = MatchResult r (λ v. number v ≡ n) (λ e. (e.0 ≡ n) × ((v : Verdict) → number v ≢ n))

abbrev pub Belongs : Verdict → Rule → Type 0
Belongs Clear x = ⊥
Belongs SourceCycle x = is_coherence x ≡ false
Belongs CoherenceCycle x = is_coherence x ≡ true
