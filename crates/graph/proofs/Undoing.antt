-- A step taken back in memory is as the history tells it.
use Rattle.std.proofs.Common.{◌≡◌, ℕ, ◌+◌, ◌-◌, ◌<◌, ◌≤◌, List, [], ◌∷◌, length, get_or, take, set, Some, Ok, Err, Option, sym, refl, ap, ◌∙◌, subst, arith, length-set}
use Rattle.std.proofs.lemmas.List.{take_more, get_or-set_same, set-set, set-get_or, same_from_push, length_push, length-take-le}
use Rattle.graph.specs.declared.call.Call.TheVariants.{TakeBack}
use Rattle.graph.specs.declared.event.Event.{Event}
use Rattle.graph.specs.declared.refusal.Refusal.{Refusal}
use Rattle.graph.specs.declared.undo.Undo.{Undo}
use Rattle.graph.specs.declared.undo.Undo.TheVariants.{Added, Sourced}
use Rattle.graph.specs.Events.{event, fresh, absent}
use Rattle.graph.specs.History.{Step, Outcome, added, sourced, graph, resource, with_source, attempt}
use Rattle.graph.specs.Memory.{Tells, undone}
use Rattle.graph.specs.Refusals.{plain}
use Rattle.graph.proofs.Looking.{event_added, resource_take}

-- one sourcing after another at one event, the second with the source that it had
resource_back : (es : List Event) (n : ℕ) (s : Option ℕ) → 8 ≤ n → n < length es + 8 → resource (resource es n s) n (event es n).source ≡ es
resource_back es n s low high =
    let e = get_or es (n - 8) absent in
    let x = with_source e s in
    let f = (event es n).source in
    let was : get_or (set es (n - 8) x) (n - 8) absent ≡ x = get_or-set_same es (n - 8) x absent (omega arith) in
    let is : with_source x f ≡ e = ap (λ z. with_source e z.source) (event_added es n low) in
    ap (λ z. set (set es (n - 8) x) (n - 8) (with_source z f)) was ∙ set-set es (n - 8) x (with_source x f) ∙ ap (set es (n - 8)) is ∙ set-get_or es (n - 8) absent

-- what a step taken back leaves: the memory, the slice, the answer
pub record Back (es es' : List Event) (count : ℕ) (log : List Undo) (standing : ℕ) (hs : List Step) (out : Outcome) : Type 0 where
  pub answer : Ok standing ≡ out.answer
  pub tells : Tells es' count log standing out.steps
  pub slice : es' ≡ undone hs es

module _ (es : List Event) (count : ℕ) (log : List Undo) (standing : ℕ) (room : ℕ) where
  pub none_back : (hs : List Step) → Tells es count log standing hs → standing ≡ 0
      → (Err (plain Refusal.NoStep) ≡ (attempt room hs TakeBack).answer) × Tells es count log standing (attempt room hs TakeBack).steps
  unfolding attempt
  none_back [] h z = (refl, h)
  none_back (s ∷ hs) h z = absurd (omega (arith, h.steps))

  module _ (top : ℕ) (next : standing ≡ top + 1) where
    -- the log's last entry tells which step it is
    last : (s : Step) (hs : List Step) → Tells es count log standing (s ∷ hs) → get_or log top Added ≡ get_or log (length hs) Added
    last s hs h = let n : top ≡ length hs = omega (arith, h.steps) in ap (λ k. get_or log k Added) n

    pub added_back : (hs : List Step) → Tells es count log standing hs → get_or log top Added ≡ Added
        → (1 ≤ count) × Back es es (count - 1) log top hs (attempt room hs TakeBack)
    unfolding attempt graph
    added_back [] h is = absurd (omega (arith, h.steps))
    added_back (sourced r w ∷ hs) h is =
        let no_way = sym is ∙ last (sourced r w) hs h ∙ h.logged.0 in
        let z : ◌≡◌ {A = ℕ} 0 1 = cc in absurd (omega arith)
    added_back (added t c l v ∷ hs) h is =
        let n : top ≡ length hs = omega (arith, h.steps) in
        let e = fresh t c l v in
        let k = count - 1 in
        let in_es : count ≤ length es = omega (arith, h.within) in
        let some : 1 ≤ count = omega (arith, length_push (graph hs) e, ap length h.events, length-take-le count es in_es) in
        let more : count ≡ k + 1 = omega arith in
        let cut = h.events ∙ ap (λ m. take m es) more ∙ take_more es k absent (omega arith) in (
          some,
          record {
            answer = ap Ok n;
            tells = record {
              events = (same_from_push (graph hs) (take k es) e (get_or es k absent) cut).0;
              within = omega (arith, h.within);
              steps = n;
              few = omega (arith, h.few);
              size = h.size;
              logged = h.logged.1;
            };
            slice = refl;
          },
        )

    pub sourced_back : (hs : List Step) → Tells es count log standing hs → (r : ℕ) (f : Option ℕ) → get_or log top Added ≡ Sourced r f
        → ((8 ≤ r) × (r - 8 < count)) × Back es (resource es r f) count log top hs (attempt room hs TakeBack)
    unfolding attempt graph
    sourced_back [] h r f is = absurd (omega (arith, h.steps))
    sourced_back (added t c l v ∷ hs) h r f is =
        let no_way = sym is ∙ last (added t c l v) hs h ∙ h.logged.0 in
        let z : ◌≡◌ {A = ℕ} 0 1 = cc in absurd (omega arith)
    sourced_back (sourced r₀ w ∷ hs) h r f is =
        let n : top ≡ length hs = omega (arith, h.steps) in
        let g = graph hs in
        let f₀ = (event g r₀).source in
        let both : Sourced r f ≡ Sourced r₀ f₀ = sym is ∙ last (sourced r₀ w) hs h ∙ h.logged.0 in
        let same-r : r₀ ≡ r = cc in
        let same-f : f₀ ≡ f = cc in
        let in_es : count ≤ length es = omega (arith, h.within) in
        let low = h.logged.1.0 in
        let long = sym (length-set g (r₀ - 8) (with_source (get_or g (r₀ - 8) absent) (Some w))) ∙ ap length h.events ∙ length-take-le count es in_es in
        let high : r₀ - 8 < count = omega (arith, h.logged.1.1, low, long) in
        let back : g ≡ take count (resource es r₀ f₀) = sym (resource_back g r₀ (Some w) low h.logged.1.1) ∙ ap (λ x. resource x r₀ f₀) h.events ∙ resource_take es count r₀ f₀ high in
        let whole : ((8 ≤ r₀) × (r₀ - 8 < count)) × Back es (resource es r₀ f₀) count log top (sourced r₀ w ∷ hs) (record { answer = Ok (length hs); steps = hs }) = (
          (low, high),
          record {
            answer = ap Ok n;
            tells = record {
              events = back;
              within = omega (arith, h.within, length-set es (r₀ - 8) (with_source (get_or es (r₀ - 8) absent) f₀));
              steps = n;
              few = omega (arith, h.few);
              size = h.size;
              logged = h.logged.2;
            };
            slice = refl;
          },
        ) in
        let P : ℕ → Option ℕ → Type 0 = λ q z. ((8 ≤ q) × (q - 8 < count)) × Back es (resource es q z) count log top (sourced r₀ w ∷ hs) (record { answer = Ok (length hs); steps = hs }) in
        subst (P r) same-f (subst (λ q. P q f₀) same-r whole)

pub undone_none : (es : List Event) (count : ℕ) (log : List Undo) (hs : List Step) → (standing : ℕ) → Tells es count log standing hs → standing ≡ 0 → es ≡ undone hs es
undone_none es count log [] standing h z = refl
undone_none es count log (s ∷ hs) standing h z = absurd (omega (arith, h.steps))
