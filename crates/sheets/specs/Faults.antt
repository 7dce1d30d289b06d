-- What is wrong with a step of a sheet, by its bytes alone. present is how many events the graph has, v the sheet's
-- verdict, and ss the bytes of its n steps.
--
--   ReaderAt present m j r      r can stand at place j of the readers of a rule that names m of them: a reader that is
--                               named is present, and any other is 255
--   Fault present v n ss k      the step at place k is faulty
--   FirstFault present v n ss k the step at place k is the first that is faulty
use Rattle.std.specs.Prelude.{◌≡◌, ℕ, ◌<◌, ◌≤◌, List, ◌≢◌}
use Rattle.axioms.specs.Rules.{number}
use Rattle.axioms.specs.declared.rule.Rule.{Rule}
use Rattle.sheets.specs.declared.verdict.Verdict.{Verdict}
use Rattle.sheets.specs.Entries.{from, to, rule, reader, second, next}
use Rattle.sheets.specs.Steps.{readers}
use Rattle.sheets.specs.Verdicts.{Belongs}

abbrev pub ReaderAt : ℕ → ℕ → ℕ → ℕ → Type 0
ReaderAt present m j r = (j < m → r < present) × (m ≤ j → r ≡ 255)

pub data Fault (present : ℕ) (v : Verdict) (n : ℕ) (ss : List ℕ) (k : ℕ) : Type 0 where
  -- an end that names no event
  absent_from : present ≤ from ss k → Fault present v n ss k
  absent_to : present ≤ to ss k → Fault present v n ss k
  -- no rule of the verdict has that number
  foreign_rule : ((x : Rule) → number x ≡ rule ss k → Belongs v x → ⊥) → Fault present v n ss k
  -- a reader that is named and absent, or not named and not 255
  wrong_reader : (x : Rule) → number x ≡ rule ss k → (ReaderAt present (readers x) 0 (reader ss k) → ⊥) → Fault present v n ss k
  wrong_second : (x : Rule) → number x ≡ rule ss k → (ReaderAt present (readers x) 1 (second ss k) → ⊥) → Fault present v n ss k
  -- the chain breaks behind this step
  broken : (to ss k ≢ from ss (next n k)) → Fault present v n ss k
  -- an earlier step starts there
  repeated : (j : ℕ) → j < k → from ss j ≡ from ss k → Fault present v n ss k

pub record FirstFault (present : ℕ) (v : Verdict) (n : ℕ) (ss : List ℕ) (k : ℕ) : Type 0 where
  pub within : k < n
  pub faulty : Fault present v n ss k
  pub earlier_sound : (j : ℕ) → j < k → Fault present v n ss j → ⊥
