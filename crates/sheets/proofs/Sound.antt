-- Bytes in which no check finds a fault, and what each check answers where it finds the first.
--
--   CutOut bs v one two     the verdict byte is v's, and both sections are whole
--   Sound present bs v one two   no check finds a fault
use Rattle.std.proofs.Common.{◌≡◌, ℕ, ◌+◌, ◌<◌, ◌≤◌, List, length, get_or, None, Ok, Err, Result, sym, refl, ap, ◌∙◌, subst, inl, inr, ⊎_elim, arith}
use Rattle.std.specs.List.{between}
use Rattle.std.specs.Result.{result_err}
use Rattle.graph.specs.declared.refusal.Refused.{Refused}
use Rattle.sections.specs.declared.Section.{Section}
use Rattle.sections.specs.Sections.{entry_end, Whole}
use Rattle.sheets.specs.declared.layout.Layout.{Layout}
use Rattle.sheets.specs.declared.verdict.Verdict.{Verdict}
use Rattle.sheets.specs.Faults.{Fault, FirstFault}
use Rattle.sheets.specs.Layouts.{at, Says, steps_at, step_count, end_at, step_part, RightCount, BadVerdict, CutIn, WrongCount, FaultyStep, BytesBehind, Laid}
use Rattle.sheets.proofs.Naming.{same_verdict, verdict_low}
use Rattle.sections.proofs.Cutting.{whole_not_cut}

pub record CutOut (bs : List ℕ) (v : Verdict) (one two : Section) : Type 0 where
  pub some : 0 < length bs
  pub says : Says bs v
  pub first : Whole bs 1 1 one
  pub behind : Whole bs one.end 5 two

abbrev pub steps_of : List ℕ → Section → Section → List ℕ
steps_of bs one two = between (one.end + 1) two.end bs

abbrev pub NoFault : ℕ → List ℕ → Verdict → Section → Section → Type 0
NoFault present bs v one two = (k : ℕ) → k < two.count → Fault present v two.count (steps_of bs one two) k → ⊥

pub record Sound (present : ℕ) (bs : List ℕ) (v : Verdict) (one two : Section) : Type 0 where
  pub cuts : CutOut bs v one two
  pub count : RightCount v two.count
  pub steps : NoFault present bs v one two
  pub ends : length bs ≤ two.end

no_bad_verdict : (bs : List ℕ) (v : Verdict) → 0 < length bs → Says bs v → (e : Refused) → BadVerdict bs e → ⊥
no_bad_verdict bs v some says e bad = ⊎_elim (λ none. omega arith) (λ high. omega (arith, verdict_low v)) bad.0

not_cut : (bs : List ℕ) (s start size : ℕ) (whole : Section) → Whole bs start size whole → (e : Refused) → CutIn bs s start size e → ⊥
not_cut bs s start size whole w e cut = whole_not_cut bs start size whole w cut.0 cut.1.0

module _ (present : ℕ) (bs : List ℕ) (v : Verdict) (one two : Section) (cuts : CutOut bs v one two) where
  behind_first : one.end ≡ steps_at bs
  behind_first = cuts.first.ends

  pub counted : two.count ≡ step_count bs
  counted = subst (λ p. two.count ≡ get_or bs p 0) behind_first cuts.behind.told

  ended : two.end ≡ end_at bs
  ended = subst (λ p. two.end ≡ entry_end p 5 (get_or bs p 0)) behind_first cuts.behind.ends

  parted : steps_of bs one two ≡ step_part bs
  parted = ap (λ p. between (p + 1) two.end bs) behind_first ∙ ap (λ p. between (steps_at bs + 1) p bs) ended

  behind_whole : Whole bs (steps_at bs) 5 two
  behind_whole = subst (λ p. Whole bs p 5 two) behind_first cuts.behind

  to_bytes : (k : ℕ) → Fault present v two.count (steps_of bs one two) k → Fault present v (step_count bs) (step_part bs) k
  to_bytes k f = subst (λ ss. Fault present v (step_count bs) ss k) parted (subst (λ n. Fault present v n (steps_of bs one two) k) counted f)

  from_bytes : (k : ℕ) → Fault present v (step_count bs) (step_part bs) k → Fault present v two.count (steps_of bs one two) k
  from_bytes k f = subst (λ n. Fault present v n (steps_of bs one two) k) (sym counted) (subst (λ ss. Fault present v (step_count bs) ss k) (sym parted) f)

  no_wrong_count : RightCount v two.count → (e : Refused) → WrongCount bs e → ⊥
  no_wrong_count right e w =
      let same = same_verdict v w.verdict (cuts.says ∙ sym w.says) in
      w.wrong (subst (λ u. RightCount u (step_count bs)) same (subst (RightCount v) counted right))

  no_faulty_step : NoFault present bs v one two → (e : Refused) → FaultyStep present bs e → ⊥
  no_faulty_step sound e f =
      let same = same_verdict f.verdict v (f.says ∙ sym cuts.says) in
      let fault = subst (λ u. Fault present u (step_count bs) (step_part bs) f.place) same f.first.faulty in
      let within = f.first.within in
      sound f.place (omega (arith, counted)) (from_bytes f.place fault)

  pub refused_count : (e : Refused) → (RightCount v two.count → ⊥) → e ≡ at 2 0 → Laid present bs (Err e)
  unfolding Laid
  refused_count e wrong told =
      inr (
        no_bad_verdict bs v cuts.some cuts.says,
        inr (
          not_cut bs 1 1 1 one cuts.first,
          inr (
            not_cut bs 2 (steps_at bs) 5 two behind_whole,
            inl (e, (record { verdict = v; says = cuts.says; wrong = λ right. wrong (subst (RightCount v) (sym counted) right); told = told }, refl)),
          ),
        ),
      )

  pub refused_step : (e : Refused) (k : ℕ) → RightCount v two.count → FirstFault present v two.count (steps_of bs one two) k →
      e ≡ at 2 (k + 1) → Laid present bs (Err e)
  unfolding Laid
  refused_step e k right first told =
      let here : FirstFault present v (step_count bs) (step_part bs) k =
      record {
        within = subst (λ n. k < n) counted first.within;
        faulty = to_bytes k first.faulty;
        earlier_sound = λ j h f. first.earlier_sound j h (from_bytes j f);
      } in
      inr (
        no_bad_verdict bs v cuts.some cuts.says,
        inr (
          not_cut bs 1 1 1 one cuts.first,
          inr (
            not_cut bs 2 (steps_at bs) 5 two behind_whole,
            inr (
              no_wrong_count right,
              inl (e, (record { verdict = v; says = cuts.says; place = k; first = here; told = told }, refl)),
            ),
          ),
        ),
      )

  pub refused_behind : (e : Refused) → RightCount v two.count → NoFault present bs v one two → two.end < length bs →
      e ≡ at 0 0 → Laid present bs (Err e)
  unfolding Laid
  refused_behind e right sound more told =
      inr (
        no_bad_verdict bs v cuts.some cuts.says,
        inr (
          not_cut bs 1 1 1 one cuts.first,
          inr (
            not_cut bs 2 (steps_at bs) 5 two behind_whole,
            inr (
              no_wrong_count right,
              inr (
                no_faulty_step sound,
                inl (e, ((subst (λ p. p < length bs) ended more, told), refl)),
              ),
            ),
          ),
        ),
      )

pub refused_verdict : (present : ℕ) (bs : List ℕ) (e : Refused) → BadVerdict bs e → Laid present bs (Err e)
unfolding Laid
refused_verdict present bs e bad = inl (e, (bad, refl))

pub refused_first : (present : ℕ) (bs : List ℕ) (v : Verdict) (e : Refused) → 0 < length bs → Says bs v →
    CutIn bs 1 1 1 e → Laid present bs (Err e)
unfolding Laid
refused_first present bs v e some says cut = inr (no_bad_verdict bs v some says, inl (e, (cut, refl)))

pub refused_second : (present : ℕ) (bs : List ℕ) (v : Verdict) (one : Section) (e : Refused) → 0 < length bs → Says bs v →
    Whole bs 1 1 one → CutIn bs 2 one.end 5 e → Laid present bs (Err e)
unfolding Laid
refused_second present bs v one e some says first cut =
    inr (
      no_bad_verdict bs v some says,
      inr (
        not_cut bs 1 1 1 one first,
        inl (e, (subst (λ p. CutIn bs 2 p 5 e) first.ends cut, refl)),
      ),
    )

module _ (present : ℕ) (bs : List ℕ) (v : Verdict) (one two : Section) (sound : Sound present bs v one two) where
  not_behind : (e : Refused) → BytesBehind bs e → ⊥
  not_behind e more = omega (arith, sound.ends, ended present bs v one two sound.cuts, more.0)

  pub passes : (l : Layout) → Laid present bs (Ok l)
  unfolding Laid
  passes l =
      inr (
        no_bad_verdict bs v sound.cuts.some sound.cuts.says,
        inr (
          not_cut bs 1 1 1 one sound.cuts.first,
          inr (
            not_cut bs 2 (steps_at bs) 5 two (behind_whole present bs v one two sound.cuts),
            inr (
              no_wrong_count present bs v one two sound.cuts sound.count,
              inr (
                no_faulty_step present bs v one two sound.cuts sound.steps,
                inr (not_behind, refl),
              ),
            ),
          ),
        ),
      )

  -- No refusal is the checks' answer.
  pub never_refused : (e : Refused) → Laid present bs (Err e) → ⊥
  unfolding Laid
  never_refused e laid =
      ⊎_elim (λ r. no_bad_verdict bs v sound.cuts.some sound.cuts.says r.0 r.1.0) (λ a.
      ⊎_elim (λ r. not_cut bs 1 1 1 one sound.cuts.first r.0 r.1.0) (λ b.
      ⊎_elim (λ r. not_cut bs 2 (steps_at bs) 5 two (behind_whole present bs v one two sound.cuts) r.0 r.1.0) (λ c.
      ⊎_elim (λ r. no_wrong_count present bs v one two sound.cuts sound.count r.0 r.1.0) (λ d.
      ⊎_elim (λ r. no_faulty_step present bs v one two sound.cuts sound.steps r.0 r.1.0) (λ f.
      ⊎_elim (λ r. not_behind r.0 r.1.0) (λ g. let z : ◌≡◌ {A = ℕ} 0 1 = cc g.1 in omega arith) f.1) d.1) c.1) b.1) a.1) laid

pub only_passes : (present : ℕ) (bs : List ℕ) (v : Verdict) (one two : Section) → Sound present bs v one two →
    (o : Result Layout Refused) → Laid present bs o → result_err o ≡ None
only_passes present bs v one two sound (Ok l) laid = refl
only_passes present bs v one two sound (Err e) laid = absurd (never_refused present bs v one two sound e laid)
