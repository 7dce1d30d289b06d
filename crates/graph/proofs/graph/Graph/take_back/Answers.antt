-- Taking back does as the history does.
use Rattle.std.proofs.Common.{◌≡◌, ◌+◌, Err, ap, ◌∙◌, arith}
use mathlib.Core.Logic.{∥∥₁_elim}
use native.Mathlib.Bridge.{le_prop}
use Rattle.std.proofs.lemmas.Result.{err_from_is_err_and}
use Rattle.graph.specs.declared.call.Call.TheVariants.{TakeBack}
use Rattle.graph.specs.declared.refusal.Refusal.TheVariants.{NoStep}
use Rattle.graph.specs.Memory.{room_of}
use Rattle.graph.specs.Refusals.{plain}
use Rattle.graph.proofs.Fitting.{still_told}
use Rattle.graph.proofs.Undoing.{none_back, added_back, sourced_back, undone_none}
use Rattle.graph.proofs.graph.Graph.take_back.Goals as goal
use Rattle.graph.proofs.graph.Graph.take_back.Goals.{in-Added, in-Sourced}

pub returns-in_err-last-clause-told : goal.returns-in_err-last-clause-told
returns-in_err-last-clause-told c =
    let p = err_from_is_err_and c.from_residual.result c.from_residual.ensures.1 in
    let none : c.args.self.now.standing ≡ 0 = grind arith in
    let why : c.in_err-last.field-0.0 ≡ NoStep = grind arith in
    λ hs h. let b = none_back _ _ _ _ (room_of c.args.self.now.events.now) hs h none in (p.1 ∙ ap Err (p.2 ∙ ap plain why) ∙ b.0, b.1)

pub returns-in_err-last-clause-slice : goal.returns-in_err-last-clause-slice
returns-in_err-last-clause-slice c =
    let none : c.args.self.now.standing ≡ 0 = grind arith in
    λ hs h. undone_none _ _ _ hs _ h none

pub overflow_sub-self : goal.overflow_sub-self
overflow_sub-self c =
    let next : c.args.self.now.standing ≡ c.in_ok-last.last + 1 = grind arith in
    ∥∥₁_elim c.args.self.now.told le_prop (λ x. (added_back _ _ _ _ 0 _ next x.0 x.1.0 c.in-Added.is).0)

pub overflow_sub-former : goal.overflow_sub-former
overflow_sub-former c =
    let next : c.args.self.now.standing ≡ c.in_ok-last.last + 1 = grind arith in
    ∥∥₁_elim c.args.self.now.told le_prop (λ x. (sourced_back _ _ _ _ 0 _ next x.0 x.1.0 _ _ c.in-Sourced.is).0.0)

pub bounds-self-read : goal.bounds-self-read
bounds-self-read c =
    let next : c.args.self.now.standing ≡ c.in_ok-last.last + 1 = grind arith in
    ∥∥₁_elim c.args.self.now.told le_prop (λ x.
    omega (arith, (sourced_back _ _ _ _ 0 _ next x.0 x.1.0 _ _ c.in-Sourced.is).0.1, c.args.self.now.within))

pub invariant_of-self-2-clause-told : goal.invariant_of-self-2-clause-told
invariant_of-self-2-clause-told c =
    let es = c.args.self.now.events.now in
    let next : c.args.self.now.standing ≡ c.in_ok-last.last + 1 = grind arith in
    elim c.match-undo.branch [
      | in-Added w ↦ rw w.self-is (still_told es es _ _ _ _ _ _ (room_of es) TakeBack (λ hs h. (added_back _ _ _ _ (room_of es) _ next hs h w.in-Added.is).1.tells) c.args.self.now.told)
      | in-Sourced w ↦ rw w.self-is (still_told es _ _ _ _ _ _ _ (room_of es) TakeBack (λ hs h. (sourced_back _ _ _ _ (room_of es) _ next hs h _ _ w.in-Sourced.is).1.tells) c.args.self.now.told)
    ]

pub returns-clause-told : goal.returns-clause-told
returns-clause-told c =
    let es = c.args.self.now.events.now in
    let next : c.args.self.now.standing ≡ c.in_ok-last.last + 1 = grind arith in
    elim c.match-undo.branch [
      | in-Added w ↦ rw w.self-is (λ hs h. let b = (added_back _ _ _ _ (room_of es) _ next hs h w.in-Added.is).1 in (b.answer, b.tells))
      | in-Sourced w ↦ rw w.self-is (λ hs h. let b = (sourced_back _ _ _ _ (room_of es) _ next hs h _ _ w.in-Sourced.is).1 in (b.answer, b.tells))
    ]

pub returns-clause-slice : goal.returns-clause-slice
returns-clause-slice c =
    let next : c.args.self.now.standing ≡ c.in_ok-last.last + 1 = grind arith in
    elim c.match-undo.branch [
      | in-Added w ↦ rw w.self-is (λ hs h. (added_back _ _ _ _ 0 _ next hs h w.in-Added.is).1.slice)
      | in-Sourced w ↦ rw w.self-is (λ hs h. (sourced_back _ _ _ _ 0 _ next hs h _ _ w.in-Sourced.is).1.slice)
    ]
