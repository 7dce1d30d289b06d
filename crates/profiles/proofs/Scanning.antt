-- A scan, one event after the other.
use Rattle.std.proofs.Common.{Some, ◌≡◌, ℕ, ◌-◌, true, false, cond, List, [], ◌∷◌, ◌++◌, map, sym, refl, ap, ◌∙◌, subst, ap₂, ⊎_elim, append_assoc}
use Rattle.std.specs.List.{between as part, fold}
use Rattle.std.proofs.lemmas.Bool.{cases_Bool}
use Rattle.std.proofs.lemmas.List.{append-nil}
use Rattle.std.proofs.lemmas.Option.{cond_some}
use Rattle.std.proofs.lemmas.Slice.{between_is}
use Rattle.graph.specs.declared.code.Code.{Code}
use Rattle.graph.specs.declared.event.Event.{Event}
use Rattle.graph.specs.Codes.{is_access}
use Rattle.graph.specs.Events.{event}
use Rattle.graph.specs.Lookup.{lookup}
use Rattle.graph.specs.Order.{Po}
use Rattle.profiles.specs.declared.scan.Scan.{Scan}
use Rattle.profiles.specs.declared.scan.Stage.{Stage}
use Rattle.profiles.specs.declared.scan.Stage.TheVariants.{Waiting, Released, Accessed, Complete}
use Rattle.profiles.specs.Modes.{marks, is_release_fence, is_acquire_fence, is_sc_fence}
use Rattle.profiles.specs.Patterns.{followed, any}
use Rattle.profiles.specs.Scans.{awaits, further, completes, stepped, Met, Sums}
use Rattle.profiles.specs.Segments.{segment, inner_codes}
use Rattle.profiles.specs.Threads.{codes_of}
use Rattle.profiles.specs.Between.{inner_codes_are}
use Rattle.profiles.proofs.Patterns.{met_first, followed_stays, any_push}

-- a stage that moves on leaves to the codes to come what they would complete with c before them
stage_more : (s : Stage) (c : Code) (more : List Code) → completes (cond (awaits s c) (further s) s) more ≡ completes s (c ∷ more)
stage_more Waiting c more =
    let stays = followed_stays is_access (any is_acquire_fence) in
    ⊎_elim (λ e. rw e (rw e at (met_first is_release_fence (followed is_access (any is_acquire_fence)) stays c more e))) (λ e. rw e) (cases_Bool (is_release_fence c))
stage_more Released c more =
    let stays = followed_stays is_acquire_fence (λ _. true) in
    ⊎_elim (λ e. rw e (rw e at (met_first is_access (any is_acquire_fence) stays c more e))) (λ e. rw e) (cases_Bool (is_access c))
stage_more Accessed c more = ⊎_elim (λ e. rw e) (λ e. rw e) (cases_Bool (is_acquire_fence c))
stage_more Complete c more = refl

met_more : (s : Scan) (cs : List Code) (c : Code) → Met s cs → Met (stepped s c) (cs ++ c ∷ [])
met_more s cs c m = record {
  marked = cc (m.marked, any_push marks cs c);
  fenced = cc (m.fenced, any_push is_sc_fence cs c);
  stage = λ more. stage_more s.stage c more ∙ m.stage (c ∷ more) ∙ ap (completes Waiting) (sym (append_assoc cs (c ∷ []) more));
}

pub met_none : (s : Scan) → s.marked ≡ false → s.fenced ≡ false → s.stage ≡ Waiting → Met s []
met_none s x y z = record { marked = x; fenced = y; stage = λ more. ap (λ u. completes u more) z }

pub met_all : (s : Scan) (cs : List Code) (es : List Event) → Met s cs → Met (fold (λ t e. stepped t e.code) s es) (cs ++ map (λ e. e.code) es)
met_all s cs [] m = rw append-nil m
met_all s cs (e ∷ es) m = rw (← append_assoc cs (e.code ∷ []) (map (λ x. x.code) es)) (met_all (stepped s e.code) (cs ++ e.code ∷ []) es (met_more s cs e.code m))

-- the summary of a pair, from what was read for it
pub summed : (es : List Event) (a b : ℕ) → Po es a b → (first last : Event) → Some first ≡ lookup es a → Some last ≡ lookup es b
    → (xs : List Event) → xs ≡ part (a - 7) (b - 8) es → (s : Scan) → Met s (codes_of last.thread xs)
    → Sums (record { first = first.code; last = last.code; met = s }) (segment es a b)
summed es a b p first last at-a at-b xs e s met =
    let is-first = sym (cond_some _ (event es a) first (sym at-a)).1 in
    let is-last = sym (cond_some _ (event es b) last (sym at-b)).1 in
    let codes : codes_of last.thread xs ≡ inner_codes (segment es a b) = ap₂ (λ x ys. codes_of x.thread ys) is-last (e ∙ between_is es (a - 7) (b - 8)) ∙ sym (inner_codes_are es a b) in
    record { first = ap (λ x. x.code) is-first; last = ap (λ x. x.code) is-last; met = subst (Met s) codes met }
