-- A sourcing does as the history does.
use Rattle.std.proofs.Common.{Err, ap, ◌∙◌}
use Rattle.std.proofs.lemmas.Result.{err_from_is_err_and}
use Rattle.graph.specs.declared.call.Call.TheVariants.{Source}
use Rattle.graph.specs.Memory.{room_of}
use Rattle.graph.proofs.Fitting.{still_told}
use Rattle.graph.proofs.Standing.{source_refused, source_done}
use Rattle.graph.proofs.graph.Graph.source.Goals as goal

pub returns-in_err-former-clause-told : goal.returns-in_err-former-clause-told
returns-in_err-former-clause-told c =
    let p = err_from_is_err_and c.from_residual.result c.from_residual.ensures.1 in
    λ hs h. source_refused _ _ _ _ hs h (room_of c.args.self.now.events.now) _ _ c.in_err-former.field-0.0 c.in_err-former.ensures.value c.from_residual.result (p.1 ∙ ap Err p.2)

pub invariant_of-self-clause-told : goal.invariant_of-self-clause-told
invariant_of-self-clause-told c =
    let es = c.args.self.now.events.now in
    let ok = c.in_ok-former.ensures in
    still_told es _ _ _ _ _ _ _ (room_of es) (Source c.args.read c.args.write)
    (λ hs h. (source_done _ _ _ _ hs h (room_of es) _ _ c.in_ok-former.former ok.value ok.fits.0 ok.fits.1 ok.fits.2).1)
    c.args.self.now.told

pub returns-clause-told : goal.returns-clause-told
returns-clause-told c =
    let ok = c.in_ok-former.ensures in
    λ hs h. source_done _ _ _ _ hs h (room_of c.args.self.now.events.now) _ _ c.in_ok-former.former ok.value ok.fits.0 ok.fits.1 ok.fits.2
