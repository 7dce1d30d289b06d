-- A call leaves the records as they were that no event has reached.
use Rattle.std.proofs.Common.{◌≡◌, ℕ, ◌+◌, ◌-◌, ◌≤◌, Bool, true, false, cond, not, ◌||◌, eqb, ltb, leb, List, [], ◌∷◌, length, get_or, set, is_ok, Some, None, Ok, Option, refl, arith}
use Rattle.std.proofs.lemmas.List.{get_or-set_other, length-append}
use Rattle.graph.specs.declared.call.Call.{Call}
use Rattle.graph.specs.declared.call.Call.TheVariants.{Add, Source, TakeBack}
use Rattle.graph.specs.declared.code.Code.{Code}
use Rattle.graph.specs.declared.event.Event.{Event}
use Rattle.graph.specs.declared.refusal.Refusal.{Refusal}
use Rattle.graph.specs.declared.undo.Undo.{Undo}
use Rattle.graph.specs.Codes.{is_read, is_write}
use Rattle.graph.specs.Events.{event, fresh, absent}
use Rattle.graph.specs.History.{Step, Outcome, added, sourced, graph, resource, with_source, code_of, first, unless, add_checks, attempt}
use Rattle.graph.specs.Memory.{Logged}
use Rattle.marker.specs.Calls.{stored}

-- what the slice holds once a call has come to this outcome, where it would write `new`
abbrev stored_by : Outcome → List Event → List Event → List Event
stored_by out new es = cond (is_ok out.answer) new es

module _ (hs : List Step) (es : List Event) (k : ℕ) (low : length (graph hs) ≤ k) where
  add_keeps : (t : ℕ) (c : Code) (l v : ℕ) (o : Option Refusal) →
      length (graph (unless o hs (record { answer = Ok (length (graph hs) + 8); steps = added t c l v ∷ hs })).steps) ≤ k →
      get_or (stored_by (unless o hs (record { answer = Ok (length (graph hs) + 8); steps = added t c l v ∷ hs })) (set es (length (graph hs)) (fresh t c l v)) es) k absent ≡ get_or es k absent
  unfolding graph
  add_keeps t c l v (Some r) high = refl
  add_keeps t c l v None high =
      let long = length-append (graph hs) (fresh t c l v ∷ []) in
      get_or-set_other es (length (graph hs)) k (fresh t c l v) absent (λ e. omega arith)

  -- the first two checks of a sourcing say that the read is an added event
  source_keeps : (r w : ℕ) (absent-write no_read : Bool) (rest : Option Refusal) (absent-read initial : Bool) → leb (length (graph hs) + 8) r ≡ absent-read → ltb r 8 ≡ initial →
      get_or (stored_by (unless (cond (absent-read || absent-write) (Some Refusal.AbsentEvent) (cond (initial || no_read) (Some Refusal.NotAnAddedRead) rest)) hs
      (record { answer = Ok (length hs + 1); steps = sourced r w ∷ hs })) (resource es r (Some w)) es) k absent ≡ get_or es k absent
  source_keeps r w aw nr rest true initial p q = refl
  source_keeps r w true nr rest false initial p q = refl
  source_keeps r w false nr rest false true p q = refl
  source_keeps r w false true rest false false p q = refl
  source_keeps r w false false (Some e) false false p q = refl
  source_keeps r w false false None false false p q =
      get_or-set_other es (r - 8) k (with_source (get_or es (r - 8) absent) (Some w)) absent (λ e. grind (arith, p, q))

pub stored_keeps : (room : ℕ) (log : List Undo) (hs : List Step) (es : List Event) (c : Call) (k : ℕ) → Logged log hs →
    length (graph hs) ≤ k → length (graph (attempt room hs c).steps) ≤ k → get_or (stored room hs es c) k absent ≡ get_or es k absent
unfolding attempt
stored_keeps room log hs es (Add t n l v) k logged low high =
    add_keeps hs es k low t (code_of n) l v (first (add_checks room (length (graph hs)) (length hs) t n (code_of n) l v)) high
stored_keeps room log hs es (Source r w) k logged low high =
    let gs = graph hs in
    source_keeps hs es k low r w (leb (length gs + 8) w) (not (is_read (event gs r).code))
    (first ((not (is_write (event gs w).code) || not (eqb (event gs w).location (event gs r).location), Refusal.NotItsWrite) ∷ (leb 256 (length hs), Refusal.StepsFull) ∷ []))
    (leb (length gs + 8) r) (ltb r 8) refl refl
stored_keeps room log [] es TakeBack k logged low high = refl
stored_keeps room log (added t c l v ∷ hs) es TakeBack k logged low high = refl
stored_keeps room log (sourced r w ∷ hs) es TakeBack k logged low high =
    get_or-set_other es (r - 8) k (with_source (get_or es (r - 8) absent) (event (graph hs) r).source) absent (λ e. omega (arith, logged.1))
