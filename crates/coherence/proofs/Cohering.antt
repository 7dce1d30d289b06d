-- A step of coherence holds where the write is visible or a read shows it.
use Rattle.std.proofs.Common.{◌≡◌, ℕ, ◌+◌, ◌-◌, ◌<◌, ◌≤◌, Bool, true, ◌⊎◌, List, length, get_or, Decides, refl, ap, inl, inr, arith}
use Rattle.std.proofs.lemmas.Bool.{both_ways, cases_Bool, cases_lt, cond-true, lt-ltb, false≢true}
use Rattle.graph.specs.declared.event.Event.{Event}
use Rattle.graph.specs.Codes.{is_read}
use Rattle.graph.specs.Events.{event, initial_write, absent}
use Rattle.profiles.specs.Meaning.{Meaning}
use Rattle.coherence.specs.Coherence.{ByValue, ByOrder, Shows}
use Rattle.axioms.specs.Relations.{Rivals, Holds, Co}
use Rattle.axioms.specs.Rules.{is_coherence}
use Rattle.coherence.specs.Sights.{Seen}
use Rattle.axioms.specs.declared.rule.Rule.{Rule}
use Rattle.axioms.specs.declared.rule.Rule.TheVariants.{ProgramOrder, ReadsFrom, Coww, Cowr, Corw, Corr}
use Rattle.axioms.proofs.Any.{Among}
use Rattle.coherence.proofs.Sighting.{write_present}

module _ (m : Meaning) (es : List Event) (L : List ℕ) (p q : ℕ) where
  -- No read below k shows the step.
  abbrev NoneShows : ℕ → Type 0
  NoneShows k = (x : ℕ) → x < k → ByValue m es L p q x ⊎ ByOrder m es L p q x → ⊥

  none_initial : NoneShows 8
  none_initial x h (inl v) = let added = v.0.added.0 in absurd (omega arith)
  none_initial x h (inr o) =
      let writes : event es x ≡ initial_write x = cond-true _ (initial_write x) (get_or es (x - 8) absent) (lt-ltb x 8 h) in
      both_ways (is_read (event es x).code) (ap (λ e. is_read e.code) writes) o.1.0.reads

  module _ (rivals : Rivals es p q) where
    pub by_coww : Seen m es L p q → Co m es L p q
    by_coww seen = record { rule = Coww; coherence = refl; reader = 255; second = 255; holds = (rivals, seen.visible) }

    by_value : (r : ℕ) → ByValue m es L p q r → Co m es L p q
    by_value r v =
        elim v.1 [
          | inl seen ↦ record { rule = Cowr; coherence = refl; reader = r; second = 255; holds = (rivals, (v.0, seen.visible)) }
          | inr before ↦ record { rule = Corr; coherence = refl; reader = before.0; second = r; holds = (rivals, (before.1.0, (before.1.1, v.0))) }
        ]

    by_order : (r : ℕ) → ByOrder m es L p q r → Co m es L p q
    by_order r o = record {
      rule = Corw;
      coherence = refl;
      reader = r;
      second = 255;
      holds = (rivals, record { reads = o.1.0.reads; location = o.1.0.location; visible = o.1.1.visible; before = o.0 });
    }

    row : p < length es + 8
    row = write_present es p rivals.first

    none_shows : (k : ℕ) → length es + 8 ≤ k → (Seen m es L p q → ⊥) → NoneShows k → Co m es L p q → ⊥
    none_shows k end blind none co = by_rule co.rule co.reader co.second co.coherence co.holds
      where
        by_rule : (x : Rule) (u v : ℕ) → is_coherence x ≡ true → Holds m es L x p q u v → ⊥
        by_rule ProgramOrder u v is h = false≢true is
        by_rule ReadsFrom u v is h = false≢true is
        by_rule Coww u v is h = blind (record { row = row; column = write_present es q rivals.second; visible = h.1 })
        by_rule Cowr u v is h =
            let column = h.1.0.added.1 in
            none u (omega arith) (inl (h.1.0, inl (record { row = row; column = column; visible = h.1.1 })))
        by_rule Corw u v is h =
            let earlier = h.1.before.earlier in
            let within = h.1.before.added.1 in
            let column : u < length es + 8 = omega arith in
            none u (omega arith)
            (inr (
              h.1.before,
              (
                record { reader = column; other = row; reads = h.1.reads; location = h.1.location },
                record { row = row; column = column; visible = h.1.visible },
              ),
            ))
        by_rule Corr u v is h =
            let column = h.1.1.1.added.1 in
            none v (omega arith) (inl (h.1.1.1, inr (u, (h.1.0, h.1.1.0))))

    -- Whether some added event shows the step tells whether it holds, where p is not visible to q.
    pub shows_told : (Seen m es L p q → ⊥) → (k : ℕ) → k ≡ length es + 8 → (r : Bool) → Decides r (Among 8 k (Shows m es L p q)) → Decides r (Co m es L p q)
    unfolding Shows
    shows_told blind k is r told = (
      λ e. let h = told.0 e in elim h.3 [ inl v ↦ by_value h.0 v | inr o ↦ by_order h.0 o ],
      λ co. elim (cases_Bool r) [
        | inl holds ↦ holds
        | inr fails ↦
            let none : NoneShows k = λ x l s.
            elim (cases_lt x 8) [ inl low ↦ none_initial x low s | inr high ↦ both_ways r fails (told.1 (x, high, l, s)) ] in
            absurd (none_shows k (omega arith) blind none co)
      ],
    )
