-- An event that reaches an earlier one makes the list unlawful, and nothing else does.
use Rattle.std.proofs.Common.{ℕ, ◌<◌, get_or, arith, below_more}
use Rattle.std.proofs.lemmas.Bool.{both_ways}
use Rattle.measures.specs.Walks.{Leads}
use Rattle.axioms.specs.Relations.{SourceStep}
use Rattle.axioms.proofs.Lawfulness.{turned, straight, front_told}
use Rattle.axioms.proofs.source_reach.SourceReach.is_lawful.Goals as goal

pub loop-later-preserved : goal.loop-later-preserved
loop-later-preserved c es reached proper =
    let L = c.args.list.now in
    let j = c.loop-later.later in
    let told = front_told (Leads (SourceStep es) (get_or L j 0)) L _ j (omega arith) (omega arith) c.leads_to_any.result (c.leads_to_any.ensures es reached proper) in
    below_more (λ j. (i : ℕ) → i < j → Leads (SourceStep es) (get_or L j 0) (get_or L i 0) → ⊥) j (c.loop-later.invariant es reached proper)
    (λ i h l. both_ways c.leads_to_any.result c.if-leads_to_any.false (told.1 (i, h, l)))

pub returns-then-leads_to_any : goal.returns-then-leads_to_any
returns-then-leads_to_any c es reached proper once =
    let L = c.args.list.now in
    let j = c.loop-later.later in
    let told = front_told (Leads (SourceStep es) (get_or L j 0)) L _ j (omega arith) (omega arith) c.leads_to_any.result (c.leads_to_any.ensures es reached proper) in
    let h = told.0 c.if-leads_to_any.true in
    turned es L once h.0 j h.1 c.loop-later-test.true h.2

pub returns : goal.returns
returns c es reached proper once =
    straight es c.args.list.now once (λ i j h p. c.loop-later.invariant es reached proper j (omega arith) i h)
