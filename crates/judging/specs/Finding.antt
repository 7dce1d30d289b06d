-- What is found of a graph before its sheet is written. Throughout, es are the added events, m is what a profile means, and L is a list of events.
--
--   LeastChain R m es L v ts   ts are the steps of a closed chain of the verdict v, and least among those of R
--   Found m es L f             L is a push order, f tells the verdict of the graph under L, and its steps show it
use Rattle.std.specs.Prelude.{ℕ, List}
use Rattle.graph.specs.declared.event.Event.{Event}
use Rattle.profiles.specs.Meaning.{Meaning}
use Rattle.axioms.specs.Relations.{PushOrder}
use Rattle.sheets.specs.declared.step.Step.{Step}
use Rattle.sheets.specs.declared.verdict.Verdict.{Verdict}
use Rattle.sheets.specs.Truth.{Chain}
use Rattle.judging.specs.declared.finding.Finding.{Finding}
use Rattle.judging.specs.Judging.{Least, Finds}
use Rattle.judging.specs.Laying.{steps_of}

pub record LeastChain (R : ℕ → ℕ → Type 0) (m : Meaning) (es : List Event) (L : List ℕ) (v : Verdict) (ts : List Step) : Type 0 where
  pub chain : Chain m es L v ts
  pub least : Least R ts

pub record Found (m : Meaning) (es : List Event) (L : List ℕ) (f : Finding) : Type 0 where
  pub pushing : PushOrder m es L
  pub finds : Finds m es L f.verdict (steps_of f.steps)
