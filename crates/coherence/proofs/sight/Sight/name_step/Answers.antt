use Rattle.std.proofs.Common.{Some, sym, subst}
use Rattle.std.proofs.lemmas.Bool.Decides.{not_from_Decides}
use Rattle.coherence.specs.Sights.{Throughout}
use Rattle.coherence.proofs.FirstRule.{Answer, by_cowr, by_corw, by_corr}
use Rattle.coherence.proofs.sight.Sight.name_step.Goals as goal

pub returns-in-Some : goal.returns-in-Some
returns-in-Some c =
    let answer : Throughout c.args.self.now (λ es m L. Answer m es L c.args.p c.args.q (Some c.by-in-Some.result)) =
    λ m L told. let es = c.args.self.now.events.now in
    subst (λ n. Answer m es L c.args.p c.args.q (Some n)) (sym c.by-in-Some.ensures)
    (by_cowr m es L c.args.p c.args.q
    (not_from_Decides c.holds.result (c.holds.ensures m L told) c.if-holds.false)
    c.in-Some.reader
    (c.in-Some.ensures m L told)) in
    record { names = λ m L told. (answer m L told).names; first = λ m L told. (answer m L told).first }

pub returns-in-Some-first_reader : goal.returns-in-Some-first_reader
returns-in-Some-first_reader c =
    let answer : Throughout c.args.self.now (λ es m L. Answer m es L c.args.p c.args.q (Some c.by-in-Some-first_reader.result)) =
    λ m L told. let es = c.args.self.now.events.now in
    subst (λ n. Answer m es L c.args.p c.args.q (Some n)) (sym c.by-in-Some-first_reader.ensures)
    (by_corw m es L c.args.p c.args.q
    (not_from_Decides c.holds.result (c.holds.ensures m L told) c.if-holds.false)
    (c.in_default.ensures m L told)
    c.in-Some-first_reader.reader
    (c.in-Some-first_reader.ensures m L told)) in
    record { names = λ m L told. (answer m L told).names; first = λ m L told. (answer m L told).first }

pub returns : goal.returns
returns c =
    let answer : Throughout c.args.self.now (λ es m L. Answer m es L c.args.p c.args.q c.first_pair.result) =
    λ m L told. by_corr m c.args.self.now.events.now L c.args.p c.args.q
    (not_from_Decides c.holds.result (c.holds.ensures m L told) c.if-holds.false)
    (c.in_default.ensures m L told)
    (c.in_default-first_reader.ensures m L told)
    c.first_pair.result
    (c.first_pair.ensures m L told) in
    record { names = λ m L told. (answer m L told).names; first = λ m L told. (answer m L told).first }
