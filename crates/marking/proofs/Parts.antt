-- Where the parts of a sheet stand in its bytes.
--
--   Parted bs s      the parts of the bytes bs are those of the sheet s
--   sheet_of l ts    the sheet of the layout l, whose steps are ts
use Rattle.std.proofs.Common.{◌≡◌, ℕ, ◌+◌, ◌-◌, ◌*◌, ◌≤◌, List, [], ◌∷◌, ◌++◌, length, drop, sym, refl, ap, ◌∙◌, subst, arith, length-append}
use Rattle.std.specs.List.{flat_map}
use Rattle.std.proofs.lemmas.List.{append_assoc, take_at, drop_at, get_or_at}
use Rattle.std.proofs.lemmas.Slice.{between_to_end}
use Rattle.sheets.specs.declared.layout.Layout.{Layout}
use Rattle.sheets.specs.declared.step.Step.{Step}
use Rattle.sheets.specs.declared.verdict.Verdict.{Verdict}
use Rattle.sheets.specs.Layouts.{Says, steps_at, end_at, step_count, step_part}
use Rattle.sheets.specs.Sheets.{Sheet, encode}
use Rattle.sheets.specs.Steps.{step_bytes}
use Rattle.sheets.specs.Verdicts.{number}
use Rattle.sheets.specs.WellLaid.{Told}
use Rattle.sheets.proofs.Bytes.{length_steps}
use Rattle.marking.specs.Marking.{order_part}

pub record Parted (bs : List ℕ) (s : Sheet) : Type 0 where
  pub says : Says bs s.verdict
  pub order : order_part bs ≡ s.order
  pub steps : step_part bs ≡ flat_map step_bytes s.steps
  pub count : step_count bs ≡ length s.steps

module _ (s : Sheet) where
  abbrev head : List ℕ
  head = number s.verdict ∷ length s.order ∷ s.order

  abbrev tail : List ℕ
  tail = flat_map step_bytes s.steps

  begins : steps_at (encode s) ≡ 2 + length s.order
  unfolding encode
  begins = omega arith

  counted : step_count (encode s) ≡ length s.steps
  unfolding encode
  counted = get_or_at head (length s.steps) tail 0 (steps_at (encode s)) (omega arith)

  ends : length (encode s) ≤ end_at (encode s)
  unfolding encode
  ends = omega (arith, length-append head (length s.steps ∷ tail), length_steps s.steps, begins, ap (λ n. n * 5) counted)

  listed : order_part (encode s) ≡ s.order
  unfolding encode
  listed = take_at s.order (length s.steps ∷ tail) (steps_at (encode s) - 2) (omega arith)

  stepped : step_part (encode s) ≡ tail
  unfolding encode
  stepped =
      let start = steps_at (encode s) + 1 in
      between_to_end (encode s) start (end_at (encode s)) ends
      ∙ ap (drop start) (sym (append_assoc head (length s.steps ∷ []) tail))
      ∙ drop_at (head ++ length s.steps ∷ []) tail start (length-append head (length s.steps ∷ []) ∙ omega arith)

  encoded_parts : Parted (encode s) s
  unfolding encode
  encoded_parts = record { says = refl; order = listed; steps = stepped; count = counted }

pub parts_of : (bs : List ℕ) (s : Sheet) → bs ≡ encode s → Parted bs s
parts_of bs s is = subst (λ xs. Parted xs s) (sym is) (encoded_parts s)

abbrev made : Verdict → List ℕ → List Step → Sheet
made v order steps = record { verdict = v; order = order; steps = steps }

abbrev pub sheet_of : Layout → List Step → Sheet
sheet_of l ts = made l.verdict l.order.now ts

module _ (present : ℕ) (bs : List ℕ) (l : Layout) (told : Told present bs l) where
  abbrev steps : List Step
  steps = told.sheet.steps

  pub same_sheet : sheet_of l steps ≡ told.sheet
  same_sheet = ap (λ v. made v l.order.now steps) told.verdict ∙ ap (λ o. made told.sheet.verdict o steps) told.order

  pub layout_parts : Parted bs (sheet_of l steps)
  layout_parts = subst (Parted bs) (sym same_sheet) (parts_of bs told.sheet told.encoded)
