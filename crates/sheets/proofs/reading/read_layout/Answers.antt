use Rattle.std.proofs.Common.{refl}
use Rattle.std.proofs.lemmas.Result.{err_from_is_err_and}
use Rattle.std.proofs.lemmas.Bool.Decides.{not_from_Decides}
use Rattle.sheets.proofs.Single.{one_answer}
use Rattle.sheets.proofs.Sound.{Sound, refused_verdict, refused_first, refused_second, refused_count, refused_step, refused_behind, passes, only_passes}
use Rattle.sheets.proofs.Telling.{told, not_well_laid}
use Rattle.sheets.proofs.reading.read_layout.Goals as goal

pub returns-in_err-verdict : goal.returns-in_err-verdict
returns-in_err-verdict c =
    let p = err_from_is_err_and c.from_residual.result c.from_residual.ensures.1 in
    let laid = refused_verdict c.args.present c.args.bytes.now _ c.in_err-verdict.ensures in
    rw (p.1, p.2) (record { outcome = laid; only = λ o p. one_answer _ _ o _ p laid; told = not_well_laid _ _ _ laid })

pub returns-in_err-middle : goal.returns-in_err-middle
returns-in_err-middle c =
    let p = err_from_is_err_and c.from_residual-in_err-middle.result c.from_residual-in_err-middle.ensures.1 in
    let verdict = c.in_ok-verdict.ensures in
    let laid = refused_first c.args.present c.args.bytes.now c.in_ok-verdict.verdict _ verdict.0 verdict.1 c.in_err-middle.ensures in
    rw (p.1, p.2) (record { outcome = laid; only = λ o p. one_answer _ _ o _ p laid; told = not_well_laid _ _ _ laid })

pub returns-in_err-count : goal.returns-in_err-count
returns-in_err-count c =
    let p = err_from_is_err_and c.from_residual-in_err-count.result c.from_residual-in_err-count.ensures.1 in
    let verdict = c.in_ok-verdict.ensures in
    let laid = refused_second c.args.present c.args.bytes.now c.in_ok-verdict.verdict c.in_ok-middle.field-0 _
    verdict.0 verdict.1 c.in_ok-middle.ensures c.in_err-count.ensures in
    rw (p.1, p.2) (record { outcome = laid; only = λ o p. one_answer _ _ o _ p laid; told = not_well_laid _ _ _ laid })

pub returns-then-not-is_right_count : goal.returns-then-not-is_right_count
returns-then-not-is_right_count c =
    let verdict = c.in_ok-verdict.ensures in
    let laid = refused_count c.args.present c.args.bytes.now c.in_ok-verdict.verdict c.in_ok-middle.field-0 c.in_ok-count.field-0
    (record { some = verdict.0; says = verdict.1; first = c.in_ok-middle.ensures; behind = c.in_ok-count.ensures })
    c.broken_at.result (not_from_Decides _ c.is_right_count.ensures c.if-not-is_right_count.true) c.broken_at.ensures in
    record { outcome = laid; only = λ o p. one_answer _ _ o _ p laid; told = not_well_laid _ _ _ laid }

pub returns-in-Some : goal.returns-in-Some
returns-in-Some c =
    let verdict = c.in_ok-verdict.ensures in
    let laid = refused_step c.args.present c.args.bytes.now c.in_ok-verdict.verdict c.in_ok-middle.field-0 c.in_ok-count.field-0
    (record { some = verdict.0; says = verdict.1; first = c.in_ok-middle.ensures; behind = c.in_ok-count.ensures })
    c.broken_at-in-Some.result c.in-Some.place (c.is_right_count.ensures.0 c.if-not-is_right_count.false) c.in-Some.ensures c.broken_at-in-Some.ensures in
    record { outcome = laid; only = λ o p. one_answer _ _ o _ p laid; told = not_well_laid _ _ _ laid }

pub returns-then-end-bytes : goal.returns-then-end-bytes
returns-then-end-bytes c =
    let verdict = c.in_ok-verdict.ensures in
    let laid = refused_behind c.args.present c.args.bytes.now c.in_ok-verdict.verdict c.in_ok-middle.field-0 c.in_ok-count.field-0
    (record { some = verdict.0; says = verdict.1; first = c.in_ok-middle.ensures; behind = c.in_ok-count.ensures })
    c.broken_at-then-end-bytes.result (c.is_right_count.ensures.0 c.if-not-is_right_count.false) c.in_default.ensures c.if-end-bytes.true c.broken_at-then-end-bytes.ensures in
    record { outcome = laid; only = λ o p. one_answer _ _ o _ p laid; told = not_well_laid _ _ _ laid }

pub returns : goal.returns
returns c =
    let verdict = c.in_ok-verdict.ensures in
    let one = c.in_ok-middle.field-0 in
    let two = c.in_ok-count.field-0 in
    let sound : Sound c.args.present c.args.bytes.now c.in_ok-verdict.verdict one two = record {
      cuts = record { some = verdict.0; says = verdict.1; first = c.in_ok-middle.ensures; behind = c.in_ok-count.ensures };
      count = c.is_right_count.ensures.0 c.if-not-is_right_count.false;
      steps = c.in_default.ensures;
      ends = c.if-end-bytes.false;
    } in
    record {
      outcome = passes _ _ _ one two sound _;
      only = only_passes _ _ _ one two sound;
      told = told _ _ _ one two sound _ refl refl refl;
    }
