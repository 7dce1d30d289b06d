use Rattle.std.proofs.Common.{◌≡◌, ◌*◌, get_or, arith, refl, sym, ◌∙◌, inl, inr}
use Rattle.std.proofs.lemmas.Bool.Decides.{not_from_Decides, nat_tests}
use Rattle.sheets.specs.Entries.{next}
use Rattle.sheets.specs.Faults.{broken, repeated}
use Rattle.sheets.proofs.Blame.{unknown_rule, well_named_or_faulty, only_repeated, start_behind}
use Rattle.sheets.proofs.Places.{stands_reads}
use Rattle.sheets.proofs.faults.is_faulty.Goals as goal
use Rattle.sheets.proofs.faults.is_faulty.Goals.{then-not-is_well_named, else-not-is_well_named}

pub returns-in_default : goal.returns-in_default
returns-in_default c = (λ _. unknown_rule _ _ _ _ c.args.place (omega arith) c.in_default.ensures, λ _. refl)

pub returns-then-step-steps : goal.returns-then-step-steps
returns-then-step-steps c =
    let ss = c.args.steps.now in
    let reads = stands_reads ss c.args.place c.in-Some.step c.in-Some.ensures in
    let on = start_behind ss c.place_behind-next.result (next c.args.count c.args.place) c.place_behind-next.ensures in (
      λ _. elim c.if-not-is_well_named.branch [
        | then-not-is_well_named w ↦ elim (well_named_or_faulty c.args.present c.args.verdict c.args.count ss c.args.place c.in-Some.step reads) [
          | inl well ↦ absurd (not_from_Decides _ c.is_well_named.ensures w.if-not-is_well_named.true well)
          | inr fault ↦ fault
        ]
        | else-not-is_well_named w ↦
            broken (λ e. let same = sym reads.leads ∙ e ∙ sym on in absurd (grind (arith, nat_tests)))
      ],
      λ _. c.if-step-steps.true,
    )

pub returns-else-step-steps : goal.returns-else-step-steps
returns-else-step-steps c = elim c.if-not-is_well_named.branch [
  | then-not-is_well_named w ↦ absurd (grind (arith, nat_tests))
  | else-not-is_well_named w ↦
      let ss = c.args.steps.now in
      let reads = stands_reads ss c.args.place c.in-Some.step c.in-Some.ensures in
      let on = start_behind ss c.place_behind-next.result (next c.args.count c.args.place) c.place_behind-next.ensures in
      let well = c.is_well_named.ensures.0 w.if-not-is_well_named.false in
      let same : c.in-Some.step.to ≡ get_or ss (c.place_behind-next.result * 5) 0 = grind (arith, nat_tests) in
      let d = c.starts_where_another_did.ensures in (
        λ t. let r = d.0 t in repeated r.0 r.1 r.2,
        λ fault. d.1 (only_repeated _ _ _ _ _ c.in-Some.step reads well (same ∙ on) fault),
      )
]
