-- The bytes ss of section 2, five to a step. Steps go by place, from 0.
--
--   byte ss k j                        byte j of the step at place k
--   from, to, rule, reader, second     its five bytes, by what they say
--   next n k                           the place of the step behind the one at place k, of n: behind the last is the first
--   Stands ss k s                      the bytes of the step s stand at place k
--   StepAt ss k r                      r is the step that stands at place k; it is none where no step's bytes stand there
use Rattle.std.specs.Prelude.{◌≡◌, ℕ, ◌+◌, ◌*◌, cond, List, take, drop, Option, MatchOption, nat_lt, slice_index}
use Rattle.sheets.specs.declared.step.Step.{Step}
use Rattle.sheets.specs.Steps.{step_bytes}

abbrev pub byte : List ℕ → ℕ → ℕ → ℕ
byte ss k j = slice_index ss (k * 5 + j)

abbrev pub from : List ℕ → ℕ → ℕ
from ss k = byte ss k 0

abbrev pub to : List ℕ → ℕ → ℕ
to ss k = byte ss k 1

abbrev pub rule : List ℕ → ℕ → ℕ
rule ss k = byte ss k 2

abbrev pub reader : List ℕ → ℕ → ℕ
reader ss k = byte ss k 3

abbrev pub second : List ℕ → ℕ → ℕ
second ss k = byte ss k 4

abbrev pub next : ℕ → ℕ → ℕ
next n k = cond (nat_lt (k + 1) n) (k + 1) 0

abbrev pub Stands : List ℕ → ℕ → Step → Type 0
Stands ss k s = take 5 (drop (k * 5) ss) ≡ step_bytes s

abbrev pub StepAt : List ℕ → ℕ → Option Step → Type 0
StepAt ss k r = MatchOption r ((s : Step) → Stands ss k s → ⊥) (Stands ss k)
