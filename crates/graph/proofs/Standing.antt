-- A new graph, an addition and a sourcing in memory are as the history tells them.
use Rattle.std.proofs.Common.{◌≡◌, ℕ, ◌+◌, ◌-◌, ◌<◌, ◌≤◌, ◌≢◌, List, [], ◌∷◌, ◌++◌, length, get_or, take, set, replicate, Some, None, Ok, Err, Option, Result, sym, refl, ap, ◌∙◌, subst, zero-le, arith, length-set}
use lib.ListN.{length-replicate}
use Rattle.std.proofs.lemmas.List.{take_more_set, get_or-set_same, get_or-set_other, length-take-le}
use Rattle.graph.specs.declared.call.Call.TheVariants.{Add, Source}
use Rattle.graph.specs.declared.code.Code.{Code}
use Rattle.graph.specs.declared.event.Event.{Event}
use Rattle.graph.specs.declared.refusal.Refusal.{Refusal}
use Rattle.graph.specs.declared.refusal.Refused.{Refused}
use Rattle.graph.specs.declared.undo.Undo.{Undo}
use Rattle.graph.specs.declared.undo.Undo.TheVariants.{Added, Sourced}
use Rattle.graph.specs.Checked.{passed}
use Rattle.graph.specs.Events.{event, fresh, absent}
use Rattle.graph.specs.History.{Step, Outcome, added, sourced, graph, resource, with_source, code_of, first, unless, add_checks, source_checks, attempt}
use Rattle.graph.specs.Memory.{Tells, Logged, room_of}
use Rattle.graph.specs.Refusals.{plain}
use Rattle.graph.proofs.Checking.{passed_ok, passed_err}
use Rattle.graph.proofs.Looking.{resource_take}

pub tells_new : (es : List Event) → Tells es 0 (replicate 256 Added) 0 []
unfolding graph
tells_new es = record {
  events = refl;
  within = zero-le;
  steps = refl;
  few = zero-le;
  size = length-replicate 256 Added;
  logged = tt;
}

-- a write to the log past the standing steps
logged_set : (log : List Undo) (k : ℕ) (u : Undo) (hs : List Step) → length hs ≤ k → Logged log hs → Logged (set log k u) hs
logged_set log k u [] le h = tt
logged_set log k u (added t c l v ∷ hs) le h =
    let ne : length hs ≢ k = omega arith in
    (get_or-set_other log k (length hs) u Added ne ∙ h.0, logged_set log k u hs (omega arith) h.1)
logged_set log k u (sourced r w ∷ hs) le h =
    let ne : length hs ≢ k = omega arith in
    (get_or-set_other log k (length hs) u Added ne ∙ h.0, h.1, logged_set log k u hs (omega arith) h.2)

module _ (es : List Event) (count : ℕ) (log : List Undo) (standing : ℕ) (hs : List Step) (h : Tells es count log standing hs) where
  in_es : count ≤ length es
  in_es = omega (arith, h.within)

  graph_length : length (graph hs) ≡ count
  graph_length = ap length h.events ∙ length-take-le count es in_es

  logged_more : (u : Undo) → standing < 256 → (get_or (set log standing u) (length hs) Added ≡ u) × Logged (set log standing u) hs
  logged_more u more =
      let at : standing < length log = omega (arith, h.size) in
      (subst (λ n. get_or (set log standing u) n Added ≡ u) h.steps (get_or-set_same log standing u Added at), logged_set log standing u hs (omega (arith, h.steps)) h.logged)

  tells_add : (t : ℕ) (c : Code) (l v : ℕ) → count < room_of es → standing < 256
      → Tells (set es count (fresh t c l v)) (count + 1) (set log standing Added) (standing + 1) (added t c l v ∷ hs)
  unfolding graph
  tells_add t c l v fits more =
      let e = fresh t c l v in
      record {
        events = ap (λ g. g ++ e ∷ []) h.events ∙ sym (take_more_set es count e (omega arith));
        within = omega (arith, length-set es count e);
        steps = omega (arith, h.steps);
        few = omega arith;
        size = length-set log standing Added ∙ h.size;
        logged = logged_more Added more;
      }

  tells_source : (r w : ℕ) → 8 ≤ r → r - 8 < count → standing < 256
      → Tells (resource es r (Some w)) count (set log standing (Sourced r (event (graph hs) r).source)) (standing + 1) (sourced r w ∷ hs)
  unfolding graph
  tells_source r w low high more =
      let u = Sourced r (event (graph hs) r).source in
      let log-has = logged_more u more in
      record {
        events = ap (λ g. resource g r (Some w)) h.events ∙ resource_take es count r (Some w) high;
        within = omega (arith, h.within, length-set es (r - 8) (with_source (get_or es (r - 8) absent) (Some w)));
        steps = omega (arith, h.steps);
        few = omega arith;
        size = length-set log standing u ∙ h.size;
        logged = (log-has.0, (low, omega (arith, graph_length)), log-has.1);
      }

  -- an addition, by the answer of its checks
  module _ (t n l v : ℕ) where
    abbrev pub After-add : Outcome
    After-add = attempt (room_of es) hs (Add t n l v)

    attempt_add : (o : Option Refusal) → first (add_checks (room_of es) count standing t n (code_of n) l v) ≡ o
        → After-add ≡ unless o hs (record { answer = Ok (count + 8); steps = added t (code_of n) l v ∷ hs })
    unfolding attempt
    attempt_add o e =
        let F : ℕ → ℕ → Outcome = λ m k. unless (first (add_checks (room_of es) m k t n (code_of n) l v)) hs (record { answer = Ok (m + 8); steps = added t (code_of n) l v ∷ hs }) in
        ap (λ m. F m (length hs)) graph_length ∙ ap (λ k. F count k) (sym h.steps) ∙ ap (λ q. unless q hs (record { answer = Ok (count + 8); steps = added t (code_of n) l v ∷ hs })) e

    abbrev Checked : {X : Type 0} → X → Result X Refusal
    Checked x = passed (first (add_checks (room_of es) count standing t n (code_of n) l v)) x

    pub add_refused : (e : Refusal) → Err e ≡ Checked (code_of n) → (a : Result ℕ Refused) → a ≡ Err (plain e)
        → (a ≡ After-add.answer) × Tells es count log standing After-add.steps
    add_refused e p a is =
        let out = attempt_add (Some e) (passed_err _ _ e p) in
        (is ∙ sym (ap (λ o. o.answer) out), subst (Tells es count log standing) (sym (ap (λ o. o.steps) out)) h)

    pub add_done : (k : Code) → Ok k ≡ Checked (code_of n) → count < room_of es → standing < 256 → (e : Event) → e ≡ fresh t k l v
        → (Ok (count + 8) ≡ After-add.answer) × Tells (set es count e) (count + 1) (set log standing Added) (standing + 1) After-add.steps
    add_done k p fits more e is =
        let q = passed_ok _ _ k p in
        let out = attempt_add None q.0 in
        let made : e ≡ fresh t (code_of n) l v = is ∙ ap (λ z. fresh t z l v) q.1 in
        let told = subst (λ x. Tells (set es count x) (count + 1) (set log standing Added) (standing + 1) (added t (code_of n) l v ∷ hs)) (sym made) (tells_add t (code_of n) l v fits more) in
        (sym (ap (λ o. o.answer) out), subst (Tells (set es count e) (count + 1) (set log standing Added) (standing + 1)) (sym (ap (λ o. o.steps) out)) told)

  -- a sourcing, by the answer of its checks
  module _ (room r w : ℕ) where
    abbrev pub After-source : Outcome
    After-source = attempt room hs (Source r w)

    attempt_source : (o : Option Refusal) → first (source_checks (take count es) standing r w) ≡ o
        → After-source ≡ unless o hs (record { answer = Ok (standing + 1); steps = sourced r w ∷ hs })
    unfolding attempt
    attempt_source o e =
        let F : List Event → ℕ → Outcome = λ g k. unless (first (source_checks g k r w)) hs (record { answer = Ok (k + 1); steps = sourced r w ∷ hs }) in
        ap (λ g. F g (length hs)) h.events ∙ ap (λ k. F (take count es) k) (sym h.steps) ∙ ap (λ q. unless q hs (record { answer = Ok (standing + 1); steps = sourced r w ∷ hs })) e

    abbrev Sourced-checks : Result (Option ℕ) Refusal
    Sourced-checks = passed (first (source_checks (take count es) standing r w)) (event (take count es) r).source

    pub source_refused : (e : Refusal) → Err e ≡ Sourced-checks → (a : Result ℕ Refused) → a ≡ Err (plain e)
        → (a ≡ After-source.answer) × Tells es count log standing After-source.steps
    source_refused e p a is =
        let out = attempt_source (Some e) (passed_err _ _ e p) in
        (is ∙ sym (ap (λ o. o.answer) out), subst (Tells es count log standing) (sym (ap (λ o. o.steps) out)) h)

    pub source_done : (f : Option ℕ) → Ok f ≡ Sourced-checks → 8 ≤ r → r < count + 8 → standing < 256
        → (Ok (standing + 1) ≡ After-source.answer) × Tells (resource es r (Some w)) count (set log standing (Sourced r f)) (standing + 1) After-source.steps
    source_done f p low high more =
        let q = passed_ok _ _ f p in
        let out = attempt_source None q.0 in
        let former : (event (graph hs) r).source ≡ f = ap (λ g. (event g r).source) h.events ∙ sym q.1 in
        let told = subst (λ z. Tells (resource es r (Some w)) count (set log standing (Sourced r z)) (standing + 1) (sourced r w ∷ hs)) former (tells_source r w low (omega arith) more) in
        (sym (ap (λ o. o.answer) out), subst (Tells (resource es r (Some w)) count (set log standing (Sourced r f)) (standing + 1)) (sym (ap (λ o. o.steps) out)) told)
