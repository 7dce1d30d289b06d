-- The event of a number: an initial write below 8, and else what the list holds.
use Rattle.std.proofs.Common.{◌≡◌, ℕ, ◌-◌, ◌<◌, ◌≤◌, List, get_or, take, set, Option, sym, ap, ◌∙◌, ⊎_elim}
use lib.Seq.{take-set-lt}
use Rattle.std.proofs.lemmas.List.{get_or-take}
use Rattle.std.proofs.lemmas.Bool.{cond-true, cond-false, lt-ltb, le-ltb, cases_lt}
use Rattle.graph.specs.declared.event.Event.{Event}
use Rattle.graph.specs.Events.{event, initial_write, absent}
use Rattle.graph.specs.History.{resource, with_source}

pub event_initial : (es : List Event) (n : ℕ) → n < 8 → event es n ≡ initial_write n
event_initial es n h = cond-true _ (initial_write n) (get_or es (n - 8) absent) (lt-ltb n 8 h)

pub event_added : (es : List Event) (n : ℕ) → 8 ≤ n → event es n ≡ get_or es (n - 8) absent
event_added es n h = cond-false _ (initial_write n) (get_or es (n - 8) absent) (le-ltb n 8 h)

-- one number in two lists, where what they hold at it agrees
pub event_same : (es fs : List Event) (n : ℕ) → (8 ≤ n → get_or es (n - 8) absent ≡ get_or fs (n - 8) absent) → event es n ≡ event fs n
event_same es fs n same =
    ⊎_elim
    (λ h. event_initial es n h ∙ sym (event_initial fs n h))
    (λ h. event_added es n h ∙ same h ∙ sym (event_added fs n h))
    (cases_lt n 8)

pub resource_take : (es : List Event) (count n : ℕ) (s : Option ℕ) → n - 8 < count → resource (take count es) n s ≡ take count (resource es n s)
resource_take es count n s h =
    ap (λ e. set (take count es) (n - 8) (with_source e s)) (get_or-take count es (n - 8) absent h)
    ∙ sym (take-set-lt count es (n - 8) (with_source (get_or es (n - 8) absent) s) h)
