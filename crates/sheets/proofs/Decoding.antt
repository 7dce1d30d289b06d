-- Bytes that are those of some steps, and of no others; sheets that have the same bytes.
use Rattle.std.proofs.Common.{◌≡◌, ℕ, zero, suc, ◌+◌, ◌*◌, ◌<◌, List, [], ◌∷◌, ◌++◌, length, get_or, take, drop, sym, refl, ap, ◌∙◌, arith}
use Rattle.std.specs.List.{flat_map}
use Rattle.std.proofs.lemmas.List.{take_at, drop_at}
use Rattle.axioms.specs.Rules.{number}
use Rattle.axioms.specs.declared.rule.Rule.{Rule}
use Rattle.sheets.specs.declared.step.Step.{Step}
use Rattle.sheets.specs.declared.verdict.Verdict.{Verdict}
use Rattle.sheets.specs.Entries.{rule}
use Rattle.sheets.specs.Sheets.{Sheet, encode}
use Rattle.sheets.specs.Steps.{step_bytes}
use Rattle.sheets.proofs.Naming.{same_verdict}
use Rattle.sheets.proofs.Places.{same_bytes}

pub record Decoded (n : ℕ) (ss : List ℕ) : Type 0 where
  pub steps : List Step
  pub count : length steps ≡ n
  pub is : ss ≡ flat_map step_bytes steps

-- Bytes whose rules are known are those of steps.
pub decoded : (n : ℕ) (ss : List ℕ) → length ss ≡ n * 5 → ((k : ℕ) → k < n → (x : Rule) × (number x ≡ rule ss k)) → Decoded n ss
decoded zero [] long known = record { steps = []; count = refl; is = refl }
decoded zero (a ∷ ss) long known = absurd (omega arith)
decoded (suc n) [] long known = absurd (omega arith)
decoded (suc n) (a ∷ []) long known = absurd (omega arith)
decoded (suc n) (a ∷ b ∷ []) long known = absurd (omega arith)
decoded (suc n) (a ∷ b ∷ c ∷ []) long known = absurd (omega arith)
decoded (suc n) (a ∷ b ∷ c ∷ d ∷ []) long known = absurd (omega arith)
decoded (suc n) (a ∷ b ∷ c ∷ d ∷ e ∷ ss) long known =
    let on : (k : ℕ) → rule (a ∷ b ∷ c ∷ d ∷ e ∷ ss) (suc k) ≡ rule ss k = λ k.
    let p : suc k * 5 + 2 ≡ suc (suc (suc (suc (suc (k * 5 + 2))))) = omega arith in
    ap (λ i. get_or (a ∷ b ∷ c ∷ d ∷ e ∷ ss) i 0) p in
    let rest = decoded n ss (omega arith) (λ k h. let x = known (suc k) (omega arith) in (x.0, x.1 ∙ on k)) in
    let first = known 0 (omega arith) in
    let t : Step = record { from = a; to = b; rule = first.0; reader = d; second = e } in
    record {
      steps = t ∷ rest.steps;
      count = ap suc rest.count;
      is = cc (rest.is, first.1);
    }

pub same_steps : (ts us : List Step) → flat_map step_bytes ts ≡ flat_map step_bytes us → ts ≡ us
same_steps [] [] e = refl
same_steps [] (u ∷ us) e = let z : ◌≡◌ {A = ℕ} 0 1 = cc in absurd (omega arith)
same_steps (t ∷ ts) [] e = let z : ◌≡◌ {A = ℕ} 0 1 = cc in absurd (omega arith)
same_steps (t ∷ ts) (u ∷ us) e =
    let first : step_bytes t ≡ step_bytes u = ap (take 5) e in
    let rest : flat_map step_bytes ts ≡ flat_map step_bytes us = ap (drop 5) e in
    cc (same_bytes t u first, same_steps ts us rest)

abbrev made : Verdict → List ℕ → List Step → Sheet
made v order steps = record { verdict = v; order = order; steps = steps }

pub same_sheet : (s t : Sheet) → encode s ≡ encode t → s ≡ t
unfolding encode
same_sheet s t e =
    let verdicts = same_verdict s.verdict t.verdict cc in
    let behind : s.order ++ (length s.steps ∷ flat_map step_bytes s.steps) ≡ t.order ++ (length t.steps ∷ flat_map step_bytes t.steps) = ap (drop 2) e in
    let sizes : length t.order ≡ length s.order = cc in
    let orders : s.order ≡ t.order =
    sym (take_at s.order (length s.steps ∷ flat_map step_bytes s.steps) (length s.order) refl)
    ∙ ap (take (length s.order)) behind
    ∙ take_at t.order (length t.steps ∷ flat_map step_bytes t.steps) (length s.order) sizes in
    let rests : length s.steps ∷ flat_map step_bytes s.steps ≡ length t.steps ∷ flat_map step_bytes t.steps =
    sym (drop_at s.order (length s.steps ∷ flat_map step_bytes s.steps) (length s.order) refl)
    ∙ ap (drop (length s.order)) behind
    ∙ drop_at t.order (length t.steps ∷ flat_map step_bytes t.steps) (length s.order) sizes in
    let steps = same_steps s.steps t.steps (ap (drop 1) rests) in
    ap (λ v. made v s.order s.steps) verdicts ∙ ap (λ o. made t.verdict o s.steps) orders ∙ ap (made t.verdict t.order) steps
