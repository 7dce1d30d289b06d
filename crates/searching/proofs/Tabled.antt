-- The profile that two tables tell.
use Rattle.std.proofs.Common.{◌≡◌, ℕ, ◌+◌, ◌<◌, Bool, true, false, ◌&&◌, ltb, List, length, Decides, Ok, Err, Result, sym, ◌∙◌, subst, arith}
use Rattle.std.specs.Result.{result_unwrap_or}
use Rattle.std.proofs.lemmas.Bool.{and_parts, and_from, lt-ltb, ltb-true}
use Rattle.std.proofs.lemmas.Bool.Decides.{Decides-like}
use Rattle.measures.specs.Reach.{yes}
use Rattle.measures.specs.Walks.{at, Yes}
use Rattle.graph.specs.declared.event.Event.{Event}
use Rattle.profiles.specs.Laws.{Lawful}
use Rattle.profiles.specs.Meaning.{Meaning}
use Rattle.axioms.specs.Relations.{Kept, Pushed, CoherenceCycle}
use Rattle.axioms.specs.Tables.{Drawn}
use Rattle.measures.specs.declared.settling.Refusal.{Refusal}
use Rattle.axioms.specs.EventTables.{cells_of}
use Rattle.coherence.specs.declared.sight.Sight.{Sight}
use Rattle.coherence.specs.declared.visibility.Visibility.{Visibility}
use Rattle.coherence.specs.Coherence.{TestAnswer}
use Rattle.coherence.specs.Seen.{VisibilityOf}
use Rattle.coherence.specs.Visibility.{Fits, Told, Within}
use Rattle.coherence.proofs.Drawable.{lawful_within}
use Rattle.searching.specs.Sieves.{Cyclic, tells, tabled}
use Rattle.searching.proofs.Monotone.{more_cycles}

pub tells_yes : (n : ℕ) (xs : List ℕ) (a b : ℕ) → tells n xs a b ≡ true → Yes n xs a b
tells_yes n xs a b h =
    let p = and_parts (ltb a n) (ltb b n && yes (at n xs a b)) h in
    let q = and_parts (ltb b n) (yes (at n xs a b)) p.1 in
    record { row = ltb-true a n p.0; column = ltb-true b n q.0; is_yes = q.1 }

pub yes_tells : (n : ℕ) (xs : List ℕ) (a b : ℕ) → Yes n xs a b → tells n xs a b ≡ true
yes_tells n xs a b h =
    and_from (ltb a n) (ltb b n && yes (at n xs a b)) (lt-ltb a n h.row)
    (and_from (ltb b n) (yes (at n xs a b)) (lt-ltb b n h.column) h.is_yes)

pub tabled_drawn : (n : ℕ) (xs : List ℕ) → Drawn (λ a b. tells n xs a b ≡ true) n xs
tabled_drawn n xs a b p q = (
  λ e. yes_tells n xs a b (record { row = p; column = q; is_yes = e }),
  λ t. (tells_yes n xs a b t).is_yes,
)

pub tabled_within : (es : List Event) (kept pushed : List ℕ) → Within (tabled (length es + 8) kept pushed) es
tabled_within es kept pushed =
    let n = length es + 8 in
    record {
      kept = λ a b t. (tells_yes n kept a b t).column;
      pushed = λ a b t. let y = tells_yes n pushed a b t in (y.row, y.column);
    }

-- A lawful profile that the tables tell has the same coherence cycles as the profile of the tables.
module _ (es : List Event) (m : Meaning) (law : Lawful m) (kept pushed : List ℕ)
    (is-kept : Drawn (Kept m es) (length es + 8) kept) (is-pushed : Drawn (Pushed m es) (length es + 8) pushed) (L : List ℕ)
  where
    pub to_tabled : CoherenceCycle m es L → CoherenceCycle (tabled (length es + 8) kept pushed) es L
    to_tabled =
        more_cycles es m L (tabled (length es + 8) kept pushed) L
        (λ a b k.
        let order = law.ordered es a b k in
        let p : a < length es + 8 = omega (arith, order.earlier, order.added.1) in
        yes_tells (length es + 8) kept a b (record { row = p; column = order.added.1; is_yes = (is-kept a b p order.added.1).1 k }))
        (λ a c s.
        let w = (lawful_within m law es).pushed s.by c s.pushed in
        record {
          by = s.by;
          earlier = s.earlier;
          pushed = yes_tells (length es + 8) pushed s.by c (record { row = w.0; column = w.1; is_yes = (is-pushed s.by c w.0 w.1).1 s.pushed });
        })

    pub from_tabled : CoherenceCycle (tabled (length es + 8) kept pushed) es L → CoherenceCycle m es L
    from_tabled =
        more_cycles es (tabled (length es + 8) kept pushed) L m L
        (λ a b t. let y = tells_yes (length es + 8) kept a b t in (is-kept a b y.row y.column).0 y.is_yes)
        (λ a c s.
        let y = tells_yes (length es + 8) pushed s.by c s.pushed in
        record { by = s.by; earlier = s.earlier; pushed = (is-pushed s.by c y.row y.column).0 y.is_yes })

-- What is told of every profile that the tables tell is told of the profile of the tables.
pub cyclic_told : (es : List Event) (kept pushed L ys : List ℕ) (has : Bool) → Fits es kept → Fits es pushed →
    ((m : Meaning) → Within m es → Drawn (Kept m es) (length es + 8) kept → Drawn (Pushed m es) (length es + 8) pushed → Told m es L ys) →
    ((m : Meaning) (M : List ℕ) → Told m es M ys → Decides has (CoherenceCycle m es M)) → Decides has (Cyclic es kept pushed L)
cyclic_told es kept pushed L ys has fits_kept fits_pushed drawn decides =
    let n = length es + 8 in
    let m = tabled n kept pushed in
    Decides-like has
    (λ c. record { kept_fits = fits_kept; pushed_fits = fits_pushed; cycle = c })
    (λ c. c.cycle)
    (decides m L (drawn m (tabled_within es kept pushed) (tabled_drawn n kept) (tabled_drawn n pushed)))

-- The same of a test of the visibility that is drawn from them.
pub answered_told : (es : List Event) (kept pushed L : List ℕ) (v : Visibility) (s : Sight) (r : Result Bool Refusal) →
    VisibilityOf es kept pushed L v → s.events.now ≡ v.events.now → s.leads.now ≡ cells_of v.table → TestAnswer s r →
    Decides (result_unwrap_or r false) (Cyclic es kept pushed L)
answered_told es kept pushed L v s (Ok has) seen events leads told =
    let of-events = subst (λ xs. (m : Meaning) (M : List ℕ) → Told m xs M s.leads.now → Decides has (CoherenceCycle m xs M)) (events ∙ seen.events) told.1 in
    cyclic_told es kept pushed L (cells_of v.table) has seen.kept_fits seen.pushed_fits seen.within
    (subst (λ ys. (m : Meaning) (M : List ℕ) → Told m es M ys → Decides has (CoherenceCycle m es M)) leads of-events)
answered_told es kept pushed L v s (Err why) seen events leads refused =
    let n = length es + 8 in
    let fits = (seen.within (tabled n kept pushed) (tabled_within es kept pushed) (tabled_drawn n kept) (tabled_drawn n pushed)).fits in
    absurd (refused.unfit (subst (λ xs. Fits xs s.leads.now) (sym (events ∙ seen.events)) (subst (Fits es) (sym leads) fits)))
