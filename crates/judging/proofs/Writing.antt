-- What is found of a graph, written as a sheet.
use Rattle.std.proofs.Common.{ℕ, ◌≤◌, List, length, Ok, Err, Result, refl, inl, inr, arith}
use Rattle.std.proofs.lemmas.List.{length-take}
use Rattle.graph.specs.declared.event.Event.{Event}
use Rattle.graph.specs.declared.refusal.Refused.{Refused}
use Rattle.profiles.specs.Laws.{Lawful}
use Rattle.profiles.specs.Meaning.{Meaning}
use Rattle.axioms.proofs.SameLength.{no_longer_than_added}
use Rattle.sheets.specs.Written.{Written}
use Rattle.judging.specs.declared.finding.Finding.{Finding}
use Rattle.judging.specs.Finding.{Found}
use Rattle.judging.specs.Laying.{steps_of}
use Rattle.judging.specs.Judging.{Judges}

module _ (m : Meaning) (law : Lawful m) (es : List Event) (few : length es ≤ 56) (L old new : List ℕ) (room : 384 ≤ length old) where
  pub found_written : (f : Finding) → Found m es L f → (r : Result ℕ Refused) →
      Written (record { verdict = f.verdict; order = L; steps = steps_of f.steps }) old new r → Judges m es L old new r
  found_written f found (Ok n) w = record {
    room = room;
    sheet = record { verdict = f.verdict; order = L; steps = steps_of f.steps };
    judged = record { pushing = found.pushing; order = refl; finds = found.finds };
    told = w.told;
    front = w.front;
  }
  found_written f found (Err e) w =
      let order : length L ≤ 56 = omega (arith, no_longer_than_added m es L law found.pushing) in
      let steps : length (steps_of f.steps) ≤ 64 = omega (arith, length-take f.steps.count f.steps.laid, f.steps.few) in
      absurd (elim w.no_room [
        | inl short ↦ omega arith
        | inr large ↦ elim large [
          | inl many ↦ omega (arith, order)
          | inr many ↦ omega (arith, steps)
        ]
      ])
