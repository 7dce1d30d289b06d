-- The step at a place of the bytes of steps.
--
--   Reads ss k s   the five bytes at place k are those of the step s
use Rattle.std.proofs.Common.{◌≡◌, ℕ, zero, suc, ◌+◌, ◌*◌, ◌/◌, ◌<◌, ◌≤◌, List, [], ◌∷◌, length, get_or, take, drop, Some, None, Option, sym, refl, ap, ◌∙◌, subst, inl, inr, mul-div_cancel, arith}
use Rattle.std.specs.List.{slice_get, flat_map}
use Rattle.std.specs.Simd.{first_chunks}
use Rattle.std.proofs.lemmas.List.{get_or-drop, get_or-take, drop-drop, length-take, length-drop}
use Rattle.std.proofs.lemmas.Option.{slice_get-get_or, slice_get_past}
use Rattle.std.proofs.lemmas.Bool.{cases_lt}
use Rattle.axioms.specs.Rules.{number}
use Rattle.axioms.specs.declared.rule.Rule.{Rule}
use Rattle.axioms.specs.declared.rule.Rule.TheVariants.{ProgramOrder}
use Rattle.sheets.specs.declared.step.Step.{Step}
use Rattle.sheets.specs.Entries.{byte, from, to, rule, reader, second, Stands, StepAt}
use Rattle.sheets.specs.Steps.{step_bytes}
use Rattle.sheets.proofs.Bytes.{length_steps}
use Rattle.sheets.proofs.Naming.{same_rule}

pub record Reads (ss : List ℕ) (k : ℕ) (s : Step) : Type 0 where
  pub whole : k * 5 + 5 ≤ length ss
  pub starts : from ss k ≡ s.from
  pub leads : to ss k ≡ s.to
  pub by : rule ss k ≡ number s.rule
  pub reads : reader ss k ≡ s.reader
  pub reads_second : second ss k ≡ s.second

take_five : (xs : List ℕ) → 5 ≤ length xs → take 5 xs ≡ get_or xs 0 0 ∷ get_or xs 1 0 ∷ get_or xs 2 0 ∷ get_or xs 3 0 ∷ get_or xs 4 0 ∷ []
take_five [] h = absurd (omega arith)
take_five (a ∷ []) h = absurd (omega arith)
take_five (a ∷ b ∷ []) h = absurd (omega arith)
take_five (a ∷ b ∷ c ∷ []) h = absurd (omega arith)
take_five (a ∷ b ∷ c ∷ d ∷ []) h = absurd (omega arith)
take_five (a ∷ b ∷ c ∷ d ∷ e ∷ xs) h = refl

five : (ss : List ℕ) (k : ℕ) → k * 5 + 5 ≤ length ss →
    take 5 (drop (k * 5) ss) ≡ byte ss k 0 ∷ byte ss k 1 ∷ byte ss k 2 ∷ byte ss k 3 ∷ byte ss k 4 ∷ []
five ss k h =
    let long : 5 ≤ length (drop (k * 5) ss) = omega (arith, length-drop (k * 5) ss) in
    take_five (drop (k * 5) ss) long
    ∙ cc (get_or-drop (k * 5) ss 0 0, get_or-drop (k * 5) ss 1 0, get_or-drop (k * 5) ss 2 0, get_or-drop (k * 5) ss 3 0, get_or-drop (k * 5) ss 4 0)

pub stands_whole : (ss : List ℕ) (k : ℕ) (s : Step) → Stands ss k s → k * 5 + 5 ≤ length ss
stands_whole ss k s h = omega (arith, ap length h, length-take 5 (drop (k * 5) ss), length-drop (k * 5) ss)

pub stands_reads : (ss : List ℕ) (k : ℕ) (s : Step) → Stands ss k s → Reads ss k s
stands_reads ss k s h =
    let whole = stands_whole ss k s h in
    let bytes = five ss k whole in
    record { whole = whole; starts = cc; leads = cc; by = cc; reads = cc; reads_second = cc }

pub reads_stands : (ss : List ℕ) (k : ℕ) (s : Step) → Reads ss k s → Stands ss k s
reads_stands ss k s r = let bytes = five ss k r.whole in cc

abbrev made : ℕ → ℕ → Rule → ℕ → ℕ → Step
made a b x r q = record { from = a; to = b; rule = x; reader = r; second = q }

pub same_bytes : (s t : Step) → step_bytes s ≡ step_bytes t → s ≡ t
same_bytes s t e =
    let starts : s.from ≡ t.from = cc in
    let leads : s.to ≡ t.to = cc in
    let numbers : number s.rule ≡ number t.rule = cc in
    let reads : s.reader ≡ t.reader = cc in
    let seconds : s.second ≡ t.second = cc in
    ap (λ a. made a s.to s.rule s.reader s.second) starts
    ∙ ap (λ b. made t.from b s.rule s.reader s.second) leads
    ∙ ap (λ x. made t.from t.to x s.reader s.second) (same_rule s.rule t.rule numbers)
    ∙ ap (λ r. made t.from t.to t.rule r s.second) reads
    ∙ ap (λ q. made t.from t.to t.rule t.reader q) seconds

pub stands_once : (ss : List ℕ) (k : ℕ) (s t : Step) → Stands ss k s → Stands ss k t → s ≡ t
stands_once ss k s t h i = same_bytes s t (sym h ∙ i)

pub stands_joined : (ts : List Step) (k : ℕ) (d : Step) → k < length ts → Stands (flat_map step_bytes ts) k (get_or ts k d)
stands_joined [] k d h = absurd (omega arith)
stands_joined (t ∷ ts) zero d h = refl
stands_joined (t ∷ ts) (suc k) d h =
    let on : suc k * 5 ≡ 5 + k * 5 = omega arith in
    ap (λ p. take 5 (drop p (flat_map step_bytes (t ∷ ts)))) on
    ∙ ap (take 5) (sym (drop-drop (k * 5) 5 (flat_map step_bytes (t ∷ ts))))
    ∙ stands_joined ts k d (omega arith)

pub count_told : (ss : List ℕ) (ts : List Step) → ss ≡ flat_map step_bytes ts → length ss / 5 ≡ length ts
count_told ss ts e = ap (λ n. n / 5) (ap length e ∙ length_steps ts) ∙ mul-div_cancel (length ts) (omega arith)

pub step_told : (ss : List ℕ) (k : ℕ) (r : Option Step) (ts : List Step) → StepAt ss k r →
    ss ≡ flat_map step_bytes ts → r ≡ slice_get ts k
step_told ss k None ts none e = elim (cases_lt k (length ts)) [
  | inl l ↦
      let d : Step = record { from = 0; to = 0; rule = ProgramOrder; reader = 0; second = 0 } in
      absurd (none (get_or ts k d) (subst (λ xs. Stands xs k (get_or ts k d)) (sym e) (stands_joined ts k d l)))
  | inr l ↦ sym (slice_get_past ts k l)
]
step_told ss k (Some s) ts stands e =
    let whole = stands_whole ss k s stands in
    let h : k < length ts = omega (arith, ap length e, length_steps ts) in
    let same = stands_once ss k s (get_or ts k s) stands (subst (λ xs. Stands xs k (get_or ts k s)) (sym e) (stands_joined ts k s h)) in
    ap Some same ∙ sym (slice_get-get_or ts k s h)

-- A chunk of five bytes, and what it says of the step at its place.
chunk_at : (n k i : ℕ) (xs : List ℕ) (d : List ℕ) → i < k → get_or (first_chunks n k xs) i d ≡ take n (drop (i * n) xs)
chunk_at n zero i xs d h = absurd (omega arith)
chunk_at n (suc k) zero xs d h = let start : 0 ≡ 0 * n = omega arith in ap (λ p. take n (drop p xs)) start
chunk_at n (suc k) (suc i) xs d h =
    let on : suc i * n ≡ n + i * n = omega arith in
    chunk_at n k i (drop n xs) d (omega arith)
    ∙ ap (take n) (drop-drop (i * n) n xs)
    ∙ ap (λ p. take n (drop p xs)) (sym on)

pub chunk_found : (ss : List ℕ) (k n : ℕ) (chunk : List ℕ) (chunks : List (List ℕ)) → chunk ≡ get_or chunks k chunk →
    chunks ≡ first_chunks 5 n ss → k < n → chunk ≡ take 5 (drop (k * 5) ss)
chunk_found ss k n chunk chunks found front h = found ∙ ap (λ cs. get_or cs k chunk) front ∙ chunk_at 5 n k ss chunk h

pub chunk_byte : (ss : List ℕ) (k j : ℕ) (chunk : List ℕ) → chunk ≡ take 5 (drop (k * 5) ss) → j < 5 → get_or chunk j 0 ≡ byte ss k j
chunk_byte ss k j chunk same low =
    ap (λ xs. get_or xs j 0) same ∙ get_or-take 5 (drop (k * 5) ss) j 0 low ∙ get_or-drop (k * 5) ss j 0
