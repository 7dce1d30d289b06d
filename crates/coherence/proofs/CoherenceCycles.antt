-- The cycles of the table of coherence are those of coherence.
use Rattle.std.proofs.Common.{◌≡◌, ℕ, ◌+◌, ◌*◌, ◌≤◌, Bool, true, List, length, IfOk, IfSome, Some, None, Ok, Err, Decides, Option, Result, sym, refl, ap, ◌∙◌, subst, arith}
use Rattle.std.proofs.lemmas.Bool.{false≢true}
use Rattle.measures.specs.declared.settling.Refusal.{Refusal}
use Rattle.measures.specs.Outcome.{Square}
use Rattle.measures.specs.Walks.{Yes}
use Rattle.cycles.specs.Answers.{CycleOrNone, ShortestCycle, CycleTest}
use Rattle.cycles.specs.Cycles.{HasCycle}
use Rattle.cycles.specs.Tables.{TableOf}
use Rattle.cycles.proofs.Carrying.{table_same, answer_carries, decides_carries}
use Rattle.graph.specs.declared.event.Event.{Event}
use Rattle.profiles.specs.Meaning.{Meaning}
use Rattle.coherence.specs.Coherence.{TableDrawn, ShortestAnswer, TestAnswer}
use Rattle.axioms.specs.Relations.{Rivals, Holds, Co}
use Rattle.axioms.specs.Rules.{is_coherence}
use Rattle.coherence.specs.Sights.{Known, Throughout}
use Rattle.axioms.specs.declared.table.EventTable.{EventTable}
use Rattle.axioms.specs.EventTables.{cells_of, Tells}
use Rattle.axioms.specs.Tables.{Drawn, DrawingEach}
use Rattle.axioms.proofs.Fronts.{front_drawn}
use Rattle.coherence.specs.Visibility.{Fits, Told}
use Rattle.axioms.specs.declared.rule.Rule.{Rule}
use Rattle.axioms.specs.declared.rule.Rule.TheVariants.{ProgramOrder, ReadsFrom, Coww, Cowr, Corw, Corr}
use Rattle.coherence.specs.declared.sight.Sight.{Sight}
use Rattle.coherence.proofs.Sighting.{write_present}

module _ (m : Meaning) (es : List Event) (L : List ℕ) where
  rule_rivals : (x : Rule) (p q u v : ℕ) → is_coherence x ≡ true → Holds m es L x p q u v → Rivals es p q
  rule_rivals ProgramOrder p q u v is h = absurd (false≢true is)
  rule_rivals ReadsFrom p q u v is h = absurd (false≢true is)
  rule_rivals Coww p q u v is h = h.0
  rule_rivals Cowr p q u v is h = h.0
  rule_rivals Corw p q u v is h = h.0
  rule_rivals Corr p q u v is h = h.0

  pub co_rivals : (p q : ℕ) → Co m es L p q → Rivals es p q
  co_rivals p q co = rule_rivals co.rule p q co.reader co.second co.coherence co.holds

  module _ (xs : List ℕ) (drawn : Drawn (Co m es L) (length es + 8) xs) where
    co_table : TableOf (length es + 8) xs (Co m es L)
    co_table = record {
      within = λ p q co.
          let rivals = co_rivals p q co in
          (write_present es p rivals.first, write_present es q rivals.second);
      tells = drawn;
    }

    pub answer_told : (old new : List ℕ) (o : Option ℕ) → CycleOrNone (Yes (length es + 8) xs) old new o → CycleOrNone (Co m es L) old new o
    answer_told = answer_carries (Yes (length es + 8) xs) (Co m es L) (table_same (length es + 8) xs (Co m es L) co_table)

    pub test_told : (has : Bool) → Decides has (HasCycle (Yes (length es + 8) xs)) → Decides has (HasCycle (Co m es L))
    test_told = decides_carries (Yes (length es + 8) xs) (Co m es L) (table_same (length es + 8) xs (Co m es L) co_table)

-- Whatever the table tells, a found cycle has at most 64 steps.
pub few_steps : (n : ℕ) (xs old new : List ℕ) (r : Result (Option ℕ) Refusal) → ShortestCycle n xs old new r → IfOk r (λ o. IfSome o (λ k. k ≤ 64))
few_steps n xs old new (Ok (Some k)) h = h.1.room
few_steps n xs old new (Ok None) h = tt
few_steps n xs old new (Err why) h = tt

module _ (s : Sight) where
  -- The table of coherence became that of each profile and list that the sight shows.
  pub table_drawn : (n : ℕ) → n ≡ length s.events.now + 8 → (xs ys : List ℕ) (r : Result (Unit {0}) Refusal) →
      DrawingEach (Known s) (λ k. Co k.meaning s.events.now k.list) n xs ys r → TableDrawn s xs ys r
  table_drawn n is xs ys (Ok u) h = (
    subst (λ k. Square k xs) is h.0,
    λ m L told. subst (λ k. Drawn (Co m s.events.now L) k ys) is (h.1 (record { meaning = m; list = L; told = told })),
  )
  table_drawn n is xs ys (Err why) h = record {
    refusal = h.refusal;
    unfit = λ fits. h.unfit (subst (λ k. Square k xs) (sym is) fits);
    untouched = h.untouched;
  }

  module _ (t : EventTable) (fits : Fits s.events.now s.leads.now) (steps : Tells (Known s) (λ k. Co k.meaning s.events.now k.list) s.events.now t) where
    told_at : (m : Meaning) (L : List ℕ) → Told m s.events.now L s.leads.now → (xs : List ℕ) → xs ≡ cells_of t → Drawn (Co m s.events.now L) (length s.events.now + 8) xs
    told_at m L told xs cells =
        let R = Co m s.events.now L in
        subst (λ ys. Drawn R (length s.events.now + 8) ys) (sym cells)
        (subst (λ k. Drawn R k (cells_of t)) steps.side
        (front_drawn t.side (t.side * t.side) t.cells refl R (steps.drawn (record { meaning = m; list = L; told = told }))))

    -- What `coherence_cycle` answers.
    pub shortest_answer : (n : ℕ) → n ≡ t.side → (xs : List ℕ) → xs ≡ cells_of t → length xs ≡ t.side * t.side → (old new : List ℕ) (r : Result (Option ℕ) Refusal) →
        ShortestCycle n xs old new r → ShortestAnswer s old new r
    shortest_answer n side xs cells size old new (Ok o) h = (
      fits,
      λ m L told. answer_told m s.events.now L xs (told_at m L told xs cells) old new o
          (subst (λ k. CycleOrNone (Yes k xs) old new o) (side ∙ steps.side) h.1),
    )
    shortest_answer n side xs cells size old new (Err why) h = absurd (h.unfit (omega (arith, t.small), size ∙ ap (λ k. k * k) (sym side)))

-- What `has_coherence_cycle` answers.
pub test_answer : (s : Sight) (xs ys : List ℕ) (r : Result Bool Refusal) → Fits s.events.now s.leads.now → Fits s.events.now xs →
    Throughout s (λ es m L. Drawn (Co m es L) (length es + 8) xs) → CycleTest (length s.events.now + 8) xs ys r → TestAnswer s r
test_answer s xs ys (Ok has) fits square drawn done =
    (fits, λ m L told. test_told m s.events.now L xs (drawn m L told) has done.decides)
test_answer s xs ys (Err why) fits square drawn refused = absurd (refused.unfit square)
