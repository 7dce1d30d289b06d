-- True sheets of one graph and one list: they have the same verdict, and none has fewer steps than the one that judging writes.
use Rattle.std.proofs.Common.{◌≡◌, ℕ, ◌<◌, ◌≤◌, false, List, [], ◌∷◌, ◌++◌, length, Ok, Err, Result, sym, refl, ap, ◌∙◌, subst, inl, inr, arith}
use lib.ListN.{length-map}
use Rattle.std.specs.List.{AllByRecursion}
use Rattle.std.proofs.ByRecursion.{All-weaker}
use Rattle.std.proofs.lemmas.Bool.{false≢true}
use Rattle.cycles.specs.Cycles.{Walk, Closed}
use Rattle.cycles.proofs.Chains.{closed_has}
use Rattle.graph.specs.declared.event.Event.{Event}
use Rattle.graph.specs.declared.refusal.Refused.{Refused}
use Rattle.profiles.specs.Meaning.{Meaning}
use Rattle.axioms.specs.declared.rule.Rule.{Rule}
use Rattle.axioms.specs.declared.rule.Rule.TheVariants.{ProgramOrder, ReadsFrom, Coww, Cowr, Corw, Corr}
use Rattle.axioms.specs.Relations as axioms
use Rattle.axioms.specs.Rules.{is_coherence}
use Rattle.sheets.specs.declared.step.Step.{Step}
use Rattle.sheets.specs.declared.verdict.Verdict.{Verdict}
use Rattle.sheets.specs.declared.verdict.Verdict.TheVariants.{Clear, SourceCycle, CoherenceCycle}
use Rattle.sheets.specs.Truth.{Sound, Chain, Shows}
use Rattle.sheets.specs.WellLaid.{froms, tos, turned}
use Rattle.judging.specs.Judging.{Finds, RefusesList, Refuses, not_pushing, not_lawful, no_room, by_list, Judges}

module _ (R : ℕ → ℕ → Type 0) where
  abbrev Steps : Step → Type 0
  Steps t = R t.from t.to

  walked : (t : Step) (ts : List Step) (b : ℕ) → AllByRecursion Steps (t ∷ ts) → tos (t ∷ ts) ≡ froms ts ++ b ∷ [] → Walk R t.from (froms ts) b
  walked t [] b each is = let end : t.to ≡ b = cc in subst (R t.from) end each.0
  walked t (u ∷ us) b each is =
      let next : t.to ≡ u.from = cc in
      let rest : tos (u ∷ us) ≡ froms us ++ b ∷ [] = cc in
      (subst (R t.from) next each.0, walked u us b each.1 rest)

  pub chain_closed : (ts : List Step) → 0 < length ts → AllByRecursion Steps ts → tos ts ≡ turned (froms ts) → Closed R (froms ts)
  chain_closed [] some each is = absurd (omega arith)
  chain_closed (t ∷ ts) some each is = walked t ts t.from each is

module _ (m : Meaning) (es : List Event) (L : List ℕ) where
  source_step : (x : Rule) (p q r s : ℕ) → is_coherence x ≡ false → axioms.Holds m es L x p q r s → axioms.SourceStep es p q
  source_step ProgramOrder p q r s is h = inl h
  source_step ReadsFrom p q r s is h = inr h
  source_step Coww p q r s is h = absurd (false≢true (sym is))
  source_step Cowr p q r s is h = absurd (false≢true (sym is))
  source_step Corw p q r s is h = absurd (false≢true (sym is))
  source_step Corr p q r s is h = absurd (false≢true (sym is))

  pub source_closed : (ts : List Step) → Chain m es L SourceCycle ts → Closed (axioms.SourceStep es) (froms ts)
  source_closed ts c =
      chain_closed (axioms.SourceStep es) ts c.some
      (All-weaker (Sound m es L SourceCycle) (Steps (axioms.SourceStep es)) (λ t s. source_step t.rule t.from t.to t.reader t.second s.belongs s.holds) ts c.sound)
      c.closed

  pub coherence_closed : (ts : List Step) → Chain m es L CoherenceCycle ts → Closed (axioms.Co m es L) (froms ts)
  coherence_closed ts c =
      chain_closed (axioms.Co m es L) ts c.some
      (All-weaker (Sound m es L CoherenceCycle) (Steps (axioms.Co m es L))
      (λ t s. record { rule = t.rule; coherence = s.belongs; reader = t.reader; second = t.second; holds = s.holds }) ts c.sound)
      c.closed

  has_sources : (ts : List Step) → Chain m es L SourceCycle ts → axioms.SourceCycle es
  has_sources ts c = closed_has (axioms.SourceStep es) (froms ts) (source_closed ts c)

  has_coherence : (ts : List Step) → Chain m es L CoherenceCycle ts → axioms.CoherenceCycle m es L
  has_coherence ts c = closed_has (axioms.Co m es L) (froms ts) (coherence_closed ts c)

  -- Steps that show a verdict, beside those that judging finds.
  pub shown_found : (v w : Verdict) (ts us : List Step) → Shows m es L v ts → Finds m es L w us → (v ≡ w) × (length us ≤ length ts)
  shown_found Clear Clear ts us s f = let none = ap length f.shows.1.1 in (refl, omega arith)
  shown_found Clear SourceCycle ts us s f = absurd (s.0.sources (has_sources us f.shows))
  shown_found Clear CoherenceCycle ts us s f = absurd (s.1.0 (has_coherence us f.shows.1))
  shown_found SourceCycle Clear ts us s f = absurd (f.shows.0.sources (has_sources ts s))
  shown_found SourceCycle SourceCycle ts us s f =
      (refl, omega (arith, f.least.fewest (froms ts) (source_closed ts s), length-map ts (λ (t : Step). t.from)))
  shown_found SourceCycle CoherenceCycle ts us s f = absurd (f.shows.0.sources (has_sources ts s))
  shown_found CoherenceCycle Clear ts us s f = absurd (f.shows.1.0 (has_coherence ts s.1))
  shown_found CoherenceCycle SourceCycle ts us s f = absurd (s.0.sources (has_sources us f.shows))
  shown_found CoherenceCycle CoherenceCycle ts us s f =
      (refl, omega (arith, f.least.fewest (froms ts) (coherence_closed ts s.1), length-map ts (λ (t : Step). t.from)))

  -- Where a verdict is found the list is not refused.
  not_refused : (v : Verdict) (us : List Step) → axioms.PushOrder m es L → Finds m es L v us → (e : Refused) → RefusesList m es L e → ⊥
  not_refused v us pushing f e (not_pushing never is) = never pushing
  not_refused Clear us pushing f e (not_lawful _ sources lawful is) = lawful f.shows.0.lawful
  not_refused SourceCycle us pushing f e (not_lawful _ sources lawful is) = sources (has_sources us f.shows)
  not_refused CoherenceCycle us pushing f e (not_lawful _ sources lawful is) = lawful f.shows.0.lawful

  one_refusal : (d e : Refused) → RefusesList m es L d → RefusesList m es L e → d ≡ e
  one_refusal d e (not_pushing _ p) (not_pushing _ q) = p ∙ sym q
  one_refusal d e (not_pushing never p) (not_lawful pushing _ _ q) = absurd (never pushing)
  one_refusal d e (not_lawful pushing _ _ p) (not_pushing never q) = absurd (never pushing)
  one_refusal d e (not_lawful _ _ _ p) (not_lawful _ _ _ q) = p ∙ sym q

  one_answer : (old : List ℕ) (d e : Refused) → Refuses m es L old d → Refuses m es L old e → d ≡ e
  one_answer old d e (no_room _ p) (no_room _ q) = p ∙ sym q
  one_answer old d e (no_room short p) (by_list room q) = absurd (omega arith)
  one_answer old d e (by_list room p) (no_room short q) = absurd (omega arith)
  one_answer old d e (by_list _ p) (by_list _ q) = one_refusal d e p q

  -- Judging refuses exactly as its refusals are defined.
  pub refuses_exactly : (old new : List ℕ) (r : Result ℕ Refused) → Judges m es L old new r → (e : Refused) → Refuses m es L old e → r ≡ Err e
  refuses_exactly old new (Ok n) w e (no_room short is) = absurd (omega (arith, w.room))
  refuses_exactly old new (Ok n) w e (by_list room q) = absurd (not_refused w.sheet.verdict w.sheet.steps w.judged.pushing w.judged.finds e q)
  refuses_exactly old new (Err d) w e q = ap Err (one_answer old d e w.0 q)
