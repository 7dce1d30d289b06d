use Rattle.std.proofs.Common.{ℕ, ◌<◌}
use Rattle.axioms.specs.Relations.{Holds}
use Rattle.coherence.specs.Sights.{Throughout}
use Rattle.axioms.specs.declared.rule.Rule.TheVariants.{Corr}
use Rattle.coherence.proofs.sight.Sight.first_pair.Given as goal

abbrev pub invariant-loop-reader : goal.invariant-loop-reader
invariant-loop-reader l = Throughout l.self (λ es m L. (u : ℕ) → u < l.reader → (v : ℕ) → Holds m es L Corr l.p l.q u v → ⊥)
