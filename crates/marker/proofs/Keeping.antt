-- The parts of the whole promise that hold of every graph: judging and marking agree, and searching finds exactly what is permitted.
use Rattle.std.proofs.Common.{◌≡◌, ℕ, ◌<◌, ◌≤◌, ◌⊎◌, List, ◌++◌, length, take, drop, Ok, Err, Result, sym, ap, ◌∙◌, subst, inl, inr, arith}
use Rattle.std.proofs.lemmas.List.{take_at}
use Rattle.std.proofs.lemmas.Bool.{cases_lt, cases_order}
use Rattle.graph.specs.declared.event.Event.{Event}
use Rattle.graph.specs.declared.refusal.Refusal.{Refusal}
use Rattle.graph.specs.declared.refusal.Refused.{Refused}
use Rattle.graph.specs.Refusals.{plain}
use Rattle.graph.specs.Proper.{Proper}
use Rattle.profiles.specs.Meaning.{Meaning}
use Rattle.sheets.specs.declared.verdict.Verdict.{Verdict}
use Rattle.sheets.specs.Sheets.{Sheet, encode}
use Rattle.sheets.specs.Truth.{Shows, TrueOf}
use Rattle.sheets.specs.Verdicts.{number}
use Rattle.sheets.proofs.Decoding.{same_sheet}
use Rattle.sheets.proofs.Naming.{same_verdict}
use Rattle.judging.specs.Judging.{Judged}
use Rattle.marking.specs.Marking.{Marks}
use Rattle.marking.proofs.Once.{marks_once}
use Rattle.axioms.specs.Permitted.{Good, Permitted}
use Rattle.axioms.specs.Relations.{PushOrder, SourceCycle, CoherenceCycle}
use Rattle.searching.specs.Searching.{Few, Many, LawfulOrder, Searches, short, many, source, unlawful, found, none}
use Rattle.searching.specs.declared.answer.Answer.{Answer}
use Rattle.sequential.proofs.SingleOrder.{single_order}
use Rattle.marker.specs.Promise.{Agreement, IsFound, Ready, FindsPermitted, FindsSequential}
use Rattle.marker.proofs.Agreeing.{shown_found, refuses_exactly}
use Rattle.marker.proofs.Passed.{true_passes, passed_true}

-- Judging writes true sheets.
judged_true : (m : Meaning) (es : List Event) (L : List ℕ) (s : Sheet) → Judged m es L s → TrueOf m es s
judged_true m es L s j = record {
  pushing = subst (PushOrder m es) (sym j.order) j.pushing;
  shows = subst (λ M. Shows m es M s.verdict s.steps) (sym j.order) j.finds.shows;
}

-- Two numbers are the same or not, and so are two verdicts.
verdicts_decided : (v w : Verdict) → (v ≡ w) ⊎ (v ≡ w → ⊥)
verdicts_decided v w = elim (cases_order (number v) (number w)) [
  | inl same ↦ inl (same_verdict v w same)
  | inr apart ↦ inr (λ e. let same = ap number e in elim apart [ inl l ↦ omega arith | inr l ↦ omega arith ])
]

-- The verdict and the number of steps of another sheet
Agrees : Sheet → Sheet → Type 0
Agrees own other = (other.verdict ≡ own.verdict) × (length own.steps ≤ length other.steps)

agrees_stable : (own other : Sheet) → ((Agrees own other → ⊥) → ⊥) → Agrees own other
unfolding Agrees
agrees_stable own other nn =
    elim (verdicts_decided other.verdict own.verdict) [
      | inr differ ↦ absurd (nn (λ a. differ a.0))
      | inl same ↦ elim (cases_lt (length other.steps) (length own.steps)) [
        | inl less ↦ absurd (nn (λ a. omega (arith, a.1)))
        | inr le ↦ (same, le)
      ]
    ]

module _ (m : Meaning) (es : List Event) where
  other_agrees : (L : List ℕ) (own other : Sheet) → Judged m es L own → other.order ≡ L → TrueOf m es other → Agrees own other
  unfolding Agrees
  other_agrees L own other j is true =
      shown_found m es L other.verdict own.verdict other.steps own.steps
      (subst (λ M. Shows m es M other.verdict other.steps) is true.shows) j.finds

  pub agreement : Proper es → Agreement m es
  unfolding Agrees
  agreement proper = record {
    judging_refuses = λ L old new r judges e refuses. refuses_exactly m es L old new r judges e refuses;
    marking_refuses = λ bs r s p q. marks_once m es bs r s p q;
    own_passes = λ L old new n w r marks.
        true_passes m es proper w.sheet (judged_true m es L w.sheet w.judged) r
        (subst (λ bs. Marks m es bs r) (ap (take n) w.front ∙ take_at (encode w.sheet) (drop n old) n (sym w.told)) marks);
    others = λ L old new n w own other is order marks.
        let front = ap (take n) w.front ∙ take_at (encode w.sheet) (drop n old) n (sym w.told) in
        let same : own ≡ w.sheet = same_sheet own w.sheet (sym is ∙ front) in
        subst (λ s. Agrees s other) (sym same)
        (agrees_stable w.sheet other (λ never. passed_true m es other marks (λ true. never (other_agrees L w.sheet other w.judged order true))));
  }

-- Two ways in which a search cannot both come out.
few_not_many : (m : Meaning) (es : List Event) → Few m es → Many m es → ⊥
few_not_many m es a b = omega (arith, a.1.1, b.1.1, a.1.0.every b.1.0.events b.1.0.pushing.order, b.1.0.count)

module _ (m : Meaning) (es : List Event) (old new : List ℕ) where
  pub permitted_found : (r : Result Answer Refused) → Searches m es old new r → Ready m es old → Permitted m es → IsFound r
  permitted_found r (short h is _) ready p = absurd (omega (arith, ready.room))
  permitted_found r (many _ h is _) ready p = absurd (few_not_many m es ready.few h)
  permitted_found r (source _ _ h is _) ready p = absurd (p.0 h)
  permitted_found r (unlawful _ _ _ never is _) ready p =
      absurd (never p.1.0 (record { push_order = p.1.1.push_order; lawful = p.1.1.lawful }))
  permitted_found r (found _ _ _ L first is _) ready p = (length L, is)
  permitted_found r (none _ _ _ L lawful every is _) ready p =
      absurd (p.1.1.clear (every p.1.0 (record { push_order = p.1.1.push_order; lawful = p.1.1.lawful })))

  -- What is told of an answer that is found.
  pub record Told (n : ℕ) : Type 0 where
    pub sources : SourceCycle es → ⊥
    pub order : List ℕ
    pub good : Good m es order
    pub count : n ≡ length order
    pub front : new ≡ order ++ drop n old

  pub found_told : (n : ℕ) → Searches m es old new (Ok (Answer.Found n)) → Told n
  found_told n (short h is _) = let z : ◌≡◌ {A = ℕ} 0 1 = cc in absurd (omega arith)
  found_told n (many _ h is _) = let z : ◌≡◌ {A = ℕ} 0 1 = cc in absurd (omega arith)
  found_told n (source _ _ h is _) = let z : ◌≡◌ {A = ℕ} 0 1 = cc in absurd (omega arith)
  found_told n (unlawful _ _ _ never is _) = let z : ◌≡◌ {A = ℕ} 0 1 = cc in absurd (omega arith)
  found_told n (found _ _ sources L first is front) =
      let same : n ≡ length L = cc in
      record { sources = sources; order = L; good = first.good; count = same; front = subst (λ k. new ≡ L ++ drop k old) (sym same) front }
  found_told n (none _ _ _ L lawful every is _) = let z : ◌≡◌ {A = ℕ} 0 1 = cc in absurd (omega arith)

  pub found_permitted : (r : Result Answer Refused) → Searches m es old new r → IsFound r → Permitted m es
  found_permitted r searches f =
      let t = found_told f.0 (subst (Searches m es old new) f.1 searches) in
      (t.sources, (t.order, t.good))

  source_answered : (r : Result Answer Refused) → Searches m es old new r → Ready m es old → SourceCycle es → r ≡ Ok Answer.SourceCycle
  source_answered r (short h is _) ready c = absurd (omega (arith, ready.room))
  source_answered r (many _ h is _) ready c = absurd (few_not_many m es ready.few h)
  source_answered r (source _ _ h is _) ready c = is
  source_answered r (unlawful _ _ sources _ is _) ready c = absurd (sources c)
  source_answered r (found _ _ sources L first is _) ready c = absurd (sources c)
  source_answered r (none _ _ sources L lawful every is _) ready c = absurd (sources c)

  none_answered : (r : Result Answer Refused) → Searches m es old new r → Ready m es old → (SourceCycle es → ⊥) →
      (L : List ℕ) → LawfulOrder m es L → ((M : List ℕ) → LawfulOrder m es M → CoherenceCycle m es M) → r ≡ Ok Answer.NoneGood
  none_answered r (short h is _) ready sources L lawful every = absurd (omega (arith, ready.room))
  none_answered r (many _ h is _) ready sources L lawful every = absurd (few_not_many m es ready.few h)
  none_answered r (source _ _ h is _) ready sources L lawful every = absurd (sources h)
  none_answered r (unlawful _ _ _ never is _) ready sources L lawful every = absurd (never L lawful)
  none_answered r (found _ _ _ M first is _) ready sources L lawful every =
      absurd (first.good.clear (every M (record { push_order = first.good.push_order; lawful = first.good.lawful })))
  none_answered r (none _ _ _ M _ _ is _) ready sources L lawful every = is

  short_answered : (r : Result Answer Refused) → Searches m es old new r → length old < 56 → r ≡ Err (plain Refusal.BufferTooShort)
  short_answered r (short h is _) low = is
  short_answered r (many room h is _) low = absurd (omega arith)
  short_answered r (source room _ h is _) low = absurd (omega arith)
  short_answered r (unlawful room _ _ never is _) low = absurd (omega arith)
  short_answered r (found room _ _ L first is _) low = absurd (omega arith)
  short_answered r (none room _ _ L lawful every is _) low = absurd (omega arith)

  many_answered : (r : Result Answer Refused) → Searches m es old new r → 56 ≤ length old → Many m es → r ≡ Err (plain Refusal.TooManyPush)
  many_answered r (short h is _) room h' = absurd (omega arith)
  many_answered r (many _ h is _) room h' = is
  many_answered r (source _ few h is _) room h' = absurd (few_not_many m es few h')
  many_answered r (unlawful _ few _ never is _) room h' = absurd (few_not_many m es few h')
  many_answered r (found _ few _ L first is _) room h' = absurd (few_not_many m es few h')
  many_answered r (none _ few _ L lawful every is _) room h' = absurd (few_not_many m es few h')

  unlawful_answered : (r : Result Answer Refused) → Searches m es old new r → Ready m es old → (SourceCycle es → ⊥) →
      ((L : List ℕ) → LawfulOrder m es L → ⊥) → r ≡ Err (plain Refusal.NoLawfulOrder)
  unlawful_answered r (short h is _) ready sources never = absurd (omega (arith, ready.room))
  unlawful_answered r (many _ h is _) ready sources never = absurd (few_not_many m es ready.few h)
  unlawful_answered r (source _ _ h is _) ready sources never = absurd (sources h)
  unlawful_answered r (unlawful _ _ _ _ is _) ready sources never = is
  unlawful_answered r (found _ _ _ L first is _) ready sources never =
      absurd (never L (record { push_order = first.good.push_order; lawful = first.good.lawful }))
  unlawful_answered r (none _ _ _ L lawful every is _) ready sources never = absurd (never L lawful)

  untouched : (r : Result Answer Refused) → Searches m es old new r → (IsFound r → ⊥) → new ≡ old
  untouched r (short h is same) never = same
  untouched r (many _ h is same) never = same
  untouched r (source _ _ h is same) never = same
  untouched r (unlawful _ _ _ _ is same) never = same
  untouched r (found _ _ _ L first is _) never = absurd (never (length L, is))
  untouched r (none _ _ _ L lawful every is same) never = same

pub finds_permitted : (m : Meaning) (es : List Event) → FindsPermitted m es
finds_permitted m es = record {
  found_exactly = λ old new r searches ready. (permitted_found m es old new r searches ready, found_permitted m es old new r searches);
  found_writes = λ old new n searches. let t = found_told m es old new n searches in (t.order, (t.good, (t.count, t.front)));
  source = source_answered m es;
  none = none_answered m es;
  too_short = short_answered m es;
  too_many = many_answered m es;
  no_order = unlawful_answered m es;
  else_untouched = untouched m es;
}

pub finds_sequential : (m : Meaning) (es : List Event) → Proper es → FindsSequential m es
finds_sequential m es proper jam sc old new r searches ready =
    let single = single_order m es jam proper sc in (
      λ s. permitted_found m es old new r searches ready (single.is_permitted s),
      λ f. single.has_single (found_permitted m es old new r searches f),
    )
