-- Every graph that a history tells is proper, and being proper has one proof at most.
use Rattle.std.proofs.Common.{◌≡◌, ℕ, ◌+◌, ◌-◌, ◌<◌, ◌≤◌, true, false, List, [], ◌∷◌, ◌++◌, length, get_or, Some, None, Option, sym, refl, ap, ◌∙◌, subst, ⊎_elim, arith, length-set}
use mathlib.Core.Bool.{Bool-set}
use mathlib.Core.HLevel.{⊥_prop, Π_prop, →_prop, ×₃_prop, hedberg}
use mathlib.Core.Logic.{∥∥₁_elim}
use native.Mathlib.Bridge.{le_prop}
use native.Mathlib.Nat.{ℕ_set}
use Rattle.std.proofs.lemmas.List.{get_or_append_left, get_or_push, length_push, get_or-set_same, get_or-set_other}
use Rattle.std.proofs.lemmas.Bool.{true≢false, false≢true, cases_eq, cases_lt}
use Rattle.std.proofs.lemmas.Bool.Decides.{nat_tests}
use Rattle.graph.specs.declared.call.Call.{Call}
use Rattle.graph.specs.declared.call.Call.TheVariants.{Add, Source, TakeBack}
use Rattle.graph.specs.declared.code.Code.{Code}
use Rattle.graph.specs.declared.code.Code.TheVariants.{Read, Write, Fence}
use Rattle.graph.specs.declared.event.Event.{Event}
use Rattle.graph.specs.declared.refusal.Refusal.{Refusal}
use Rattle.graph.specs.declared.undo.Undo.{Undo}
use Rattle.graph.specs.Codes.{is_read, is_write, is_fence}
use Rattle.graph.specs.Events.{event, fresh, absent, Present}
use Rattle.graph.specs.History.{Step, Outcome, graph, resource, with_source, code_of, first, unless, add_checks, source_checks, attempt}
use Rattle.graph.specs.Memory.{Ever-proper, Tells, Told}
use Rattle.graph.specs.Proper.{Draws, Fit, Proper}
use Rattle.graph.proofs.Looking.{event_initial, event_added, event_same}

some_none : (s t : Option ℕ) → Dec (s ≡ t)
some_none None None = yes refl
some_none None (Some b) = no (λ e. let z : ◌≡◌ {A = ℕ} 0 1 = cc in absurd (omega arith))
some_none (Some a) None = no (λ e. let z : ◌≡◌ {A = ℕ} 0 1 = cc in absurd (omega arith))
some_none (Some a) (Some b) = ⊎_elim (λ e. yes (ap Some e)) (λ d. no (λ e. d (cc))) (cases_eq a b)

draws_prop : (es : List Event) (l : ℕ) (s : Option ℕ) → IsProp (Draws es l s)
draws_prop es l (Some w) = ×₃_prop le_prop (Bool-set _ _) (ℕ_set _ _)
draws_prop es l None = ⊥_prop

pub proper_prop : (es : List Event) → IsProp (Proper es)
proper_prop es =
    Π_prop (λ n. →_prop (λ x y i. record {
      thread = le_prop x.thread y.thread i;
      location = le_prop x.location y.location i;
      fence = →_prop (ℕ_set _ _) x.fence y.fence i;
      value = →_prop (ℕ_set _ _) x.value y.value i;
      drawn = →_prop (draws_prop es _ _) x.drawn y.drawn i;
      none = →_prop (hedberg some_none _ _) x.none y.none i;
    }))

-- a source stays a write of its location where no code and no location changes
module _ (es fs : List Event) (longer : length es ≤ length fs)
    (same : (k : ℕ) → Present es k → ((event fs k).code ≡ (event es k).code) × ((event fs k).location ≡ (event es k).location)) where
  draws_kept : (l : ℕ) (s : Option ℕ) → Draws es l s → Draws fs l s
  draws_kept l (Some w) p = (omega (arith, p.0), ap is_write (same w p.0).0 ∙ p.1, (same w p.0).1 ∙ p.2)
  draws_kept l None p = p

  fit_kept : (e : Event) → Fit es e → Fit fs e
  fit_kept e p = record {
    thread = p.thread;
    location = p.location;
    fence = p.fence;
    value = p.value;
    drawn = λ h. draws_kept e.location e.source (p.drawn h);
    none = p.none;
  }

fresh_fit : (es : List Event) (t : ℕ) (c : Code) (l v : ℕ) → t ≤ 7 → l ≤ 7 → (is_fence c ≡ true → l ≡ 0) → (is_write c ≡ false → v ≡ 0) → Fit es (fresh t c l v)
fresh_fit es t (Read m) l v low-t low-l zero-l zero-v =
    let is = event_initial es l (omega arith) in
    record {
      thread = low-t;
      location = low-l;
      fence = zero-l;
      value = zero-v;
      drawn = λ _. (omega arith, ap (λ e. is_write e.code) is, ap (λ e. e.location) is);
      none = λ h. absurd (true≢false h);
    }
fresh_fit es t (Write m) l v low-t low-l zero-l zero-v =
    record { thread = low-t; location = low-l; fence = zero-l; value = zero-v; drawn = λ h. absurd (false≢true h); none = λ _. refl }
fresh_fit es t (Fence m) l v low-t low-l zero-l zero-v =
    record { thread = low-t; location = low-l; fence = zero-l; value = zero-v; drawn = λ h. absurd (false≢true h); none = λ _. refl }

push_proper : (es : List Event) → Proper es → (e : Event) → Fit es e → Proper (es ++ e ∷ [])
push_proper es p e fit n at =
    let fs = es ++ e ∷ [] in
    let long : length fs ≡ length es + 1 = length_push es e in
    let left : (k : ℕ) → Present es k → event fs k ≡ event es k = λ k h. event_same fs es k (λ low. get_or_append_left es (e ∷ []) absent (k - 8) (omega arith)) in
    let keep = fit_kept es fs (omega arith) (λ k h. (ap (λ x. x.code) (left k h), ap (λ x. x.location) (left k h))) in
    ⊎_elim
    (λ below. subst (Fit fs) (sym (left n below)) (keep (event es n) (p n (at.0, below))))
    (λ above. subst (Fit fs) (sym (event_added fs n at.0 ∙ get_or_push es e absent (n - 8) (omega (arith, at.0, at.1)))) (keep e fit))
    (cases_lt n (length es + 8))

module _ (es : List Event) (p : Proper es) (r w : ℕ) (low : 8 ≤ r) (in-r : Present es r) (in-w : Present es w)
    (reads : is_read (event es r).code ≡ true) (writes : is_write (event es w).code ≡ true) (same : (event es w).location ≡ (event es r).location) where
  abbrev fs : List Event
  fs = resource es r (Some w)

  long : length fs ≡ length es
  long = length-set es (r - 8) (with_source (get_or es (r - 8) absent) (Some w))

  at_read : event fs r ≡ with_source (event es r) (Some w)
  at_read =
      event_added fs r low ∙ get_or-set_same es (r - 8) (with_source (get_or es (r - 8) absent) (Some w)) absent (omega arith)
      ∙ ap (λ e. with_source e (Some w)) (sym (event_added es r low))

  elsewhere : (k : ℕ) → (k ≡ r → ⊥) → event fs k ≡ event es k
  elsewhere k ne = event_same fs es k (λ h. get_or-set_other es (r - 8) (k - 8) (with_source (get_or es (r - 8) absent) (Some w)) absent (λ e. ne (omega arith)))

  place : (k : ℕ) → ((event fs k).code ≡ (event es k).code) × ((event fs k).location ≡ (event es k).location)
  place k = ⊎_elim
      (λ e. subst (λ j. ((event fs j).code ≡ (event es j).code) × ((event fs j).location ≡ (event es j).location)) (sym e) (ap (λ x. x.code) at_read, ap (λ x. x.location) at_read))
      (λ ne. (ap (λ x. x.code) (elsewhere k ne), ap (λ x. x.location) (elsewhere k ne)))
      (cases_eq k r)

  source_proper : Proper fs
  source_proper n at =
      let q = p r (low, in-r) in
      let now-at : Fit fs (with_source (event es r) (Some w)) = record {
        thread = q.thread;
        location = q.location;
        fence = q.fence;
        value = q.value;
        drawn = λ _. (omega (arith, long), ap is_write (place w).0 ∙ writes, (place w).1 ∙ same);
        none = λ h. absurd (true≢false (sym reads ∙ h));
      } in
      ⊎_elim
      (λ e. subst (λ j. Fit fs (event fs j)) (sym e) (subst (Fit fs) (sym at_read) now-at))
      (λ ne. subst (Fit fs) (sym (elsewhere n ne)) (fit_kept es fs (omega (arith, long)) (λ k _. place k) (event es n) (p n (at.0, omega (arith, at.1, long)))))
      (cases_eq n r)

-- what the checks have shown where none holds
add_passes : (room count steps t n : ℕ) (c : Code) (l v : ℕ) → first (add_checks room count steps t n c l v) ≡ None
    → (t ≤ 7) × (l ≤ 7) × (is_fence c ≡ true → l ≡ 0) × (is_write c ≡ false → v ≡ 0)
add_passes room count steps t n c l v e = (grind (arith, nat_tests), grind (arith, nat_tests), λ h. grind (arith, nat_tests), λ h. grind (arith, nat_tests))

source_passes : (es : List Event) (steps r w : ℕ) → first (source_checks es steps r w) ≡ None
    → (8 ≤ r) × (r < length es + 8) × (w < length es + 8) × (is_read (event es r).code ≡ true) × (is_write (event es w).code ≡ true) × ((event es w).location ≡ (event es r).location)
source_passes es steps r w e = (grind (arith, nat_tests), grind (arith, nat_tests), grind (arith, nat_tests), grind (arith, nat_tests), grind (arith, nat_tests), grind (arith, nat_tests))

pub now_proper : (hs : List Step) → Ever-proper hs → Proper (graph hs)
unfolding graph
now_proper [] h = λ n at. absurd (omega (arith, at))
now_proper (s ∷ hs) h = h.0

ever_unless : (o : Option Refusal) (hs : List Step) (done : Outcome) → Ever-proper hs → (o ≡ None → Ever-proper done.steps) → Ever-proper (unless o hs done).steps
ever_unless (Some r) hs done h k = h
ever_unless None hs done h k = k refl

-- no call breaks it
pub call_proper : (room : ℕ) (hs : List Step) (c : Call) → Ever-proper hs → Ever-proper (attempt room hs c).steps
unfolding attempt graph
call_proper room hs (Add t n l v) h =
    ever_unless (first (add_checks room (length (graph hs)) (length hs) t n (code_of n) l v)) hs _ h (λ e.
    let a = add_passes room (length (graph hs)) (length hs) t n (code_of n) l v e in
    (push_proper (graph hs) (now_proper hs h) (fresh t (code_of n) l v) (fresh_fit (graph hs) t (code_of n) l v a.0 a.1 a.2 a.3), h))
call_proper room hs (Source r w) h =
    ever_unless (first (source_checks (graph hs) (length hs) r w)) hs _ h (λ e.
    let a = source_passes (graph hs) (length hs) r w e in
    (source_proper (graph hs) (now_proper hs h) r w a.0 a.1 a.2 a.3 a.4 a.5, h))
call_proper room [] TakeBack h = tt
call_proper room (s ∷ hs) TakeBack h = h.1

-- a call that does as the history does leaves a memory that some history tells
pub still_told : (es es' : List Event) (count count' : ℕ) (log log' : List Undo) (standing standing' : ℕ) (room : ℕ) (c : Call)
    → ((hs : List Step) → Tells es count log standing hs → Tells es' count' log' standing' (attempt room hs c).steps)
    → Told es count log standing → Told es' count' log' standing'
still_told es es' count count' log log' standing standing' room c does told =
    ∥∥₁_elim told squash₁ (λ x. ∣ ((attempt room x.0 c).steps, (does x.0 x.1.0, call_proper room x.0 c x.1.1)) ∣₁)
