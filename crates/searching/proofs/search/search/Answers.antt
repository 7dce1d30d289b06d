use Rattle.std.proofs.Common.{◌≡◌, ◌-◌, length, take, None, Option, ok_or, Err, Result, arith}
use Rattle.std.specs.Result.{IsErrAnd}
use Rattle.std.proofs.lemmas.List.{length-take-le}
use Rattle.std.proofs.lemmas.Result.{err_from_is_err_and}
use Rattle.std.proofs.lemmas.Bool.Decides.{not_from_Decides}
use Rattle.graph.specs.declared.refusal.Refusal.{Refusal}
use Rattle.graph.specs.declared.refusal.Refused.{Refused}
use Rattle.graph.specs.Refusals.{plain}
use Rattle.searching.specs.declared.answer.Answer.{Answer}
use Rattle.searching.proofs.Concluding.{listed_front, item_below, tell_many, tell_source, tell_unlawful, tell_none, tell_found}
use Rattle.searching.proofs.search.search.Goals as goal

-- What a `?` behind `ok_or` returns.
refused : {X : Type 0} (o : Option X) (why e : Refusal) (r : Result Answer Refused) → o ≡ None → Err e ≡ ok_or o why →
    IsErrAnd r (λ f. f ≡ plain e) → r ≡ Err (plain why)
refused o why e r none same h =
    let p = err_from_is_err_and r h in
    let q : ◌≡◌ {A = Result _ Refusal} (Err e) (Err why) = rw none at same in
    cc (p.1, p.2, q)

pub returns-in_err-precedence : goal.returns-in_err-precedence
returns-in_err-precedence g c =
    let m = g.P.Profile.meaning c.args.profile.now in
    let es = c.events-events.result.now in
    let list = c.pushing-count.new.list in
    let E = take (c.pushing-count.result - 0) list in
    let pushing = listed_front m es _ list c.pushing-count.result (c.pushing-count.ensures.told m es c.in-Ok.ensures) in
    let none = c.in_err-precedence.ensures in
    let told = tell_many m es _ c.events-events.ensures.value c.args.buffer.now c.if-buffer-lt-LEAST_BUFFER.false E pushing
    c.from_residual.result (rw none.ok_part at c.precedence_of.ensures)
    (refused c.precedence_of.result Refusal.TooManyPush _ _ none.ok_part none.value c.from_residual.ensures.1) in
    record { answered = told.answered; only = told.only }

pub returns-then-has_cycle : goal.returns-then-has_cycle
returns-then-has_cycle g c =
    let m = g.P.Profile.meaning c.args.profile.now in
    let es = c.events-events.result.now in
    let list = c.pushing-count.new.list in
    let E = take (c.pushing-count.result - 0) list in
    let pushing = listed_front m es _ list c.pushing-count.result (c.pushing-count.ensures.told m es c.in-Ok.ensures) in
    let leading = (rw c.in_ok-precedence.ensures.ok_part at c.precedence_of.ensures) es c.in-Ok-of.ensures c.events-events.ensures.proper in
    let told = tell_source m es _ c.events-events.ensures.value c.args.buffer.now c.if-buffer-lt-LEAST_BUFFER.false E pushing
    c.in_ok-precedence.precedence leading ((c.has_cycle.ensures es c.in-Ok-of.ensures).0 c.if-has_cycle.true) in
    record { answered = told.answered; only = told.only }

pub returns-in_err-ok_or : goal.returns-in_err-ok_or
returns-in_err-ok_or g c =
    let m = g.P.Profile.meaning c.args.profile.now in
    let es = c.events-events.result.now in
    let list = c.pushing-count.new.list in
    let E = take (c.pushing-count.result - 0) list in
    let pushing = listed_front m es _ list c.pushing-count.result (c.pushing-count.ensures.told m es c.in-Ok.ensures) in
    let leading = (rw c.in_ok-precedence.ensures.ok_part at c.precedence_of.ensures) es c.in-Ok-of.ensures c.events-events.ensures.proper in
    let none = c.in_err-ok_or.ensures in
    let told = tell_unlawful m es _ c.events-events.ensures.value c.args.buffer.now c.if-buffer-lt-LEAST_BUFFER.false E pushing
    c.in_ok-precedence.precedence leading (not_from_Decides c.has_cycle.result (c.has_cycle.ensures es c.in-Ok-of.ensures) c.if-has_cycle.false)
    c.from_residual-in_err-ok_or.result (λ q o. (rw none.ok_part at c.find_order.ensures) q o)
    (refused c.find_order.result Refusal.NoLawfulOrder _ _ none.ok_part none.value c.from_residual-in_err-ok_or.ensures.1) in
    record { answered = told.answered; only = told.only }

pub write_order-requires : goal.write_order-requires
write_order-requires g c =
    let m = g.P.Profile.meaning c.args.profile.now in
    let es = c.events-events.result.now in
    let E = take (c.pushing-count.result - 0) c.pushing-count.new.list in
    let leading = (rw c.in_ok-precedence.ensures.ok_part at c.precedence_of.ensures) es c.in-Ok-of.ensures c.events-events.ensures.proper in
    let best = c.in-Some.ensures m c.in-Ok.ensures in
    record {
      few = omega (arith, leading.count, c.in_ok-precedence.precedence.small);
      room = omega arith;
      items = item_below c.in_ok-precedence.precedence _ E c.in-Some.order leading.count best;
    }

pub returns-in-Some : goal.returns-in-Some
returns-in-Some g c =
    let m = g.P.Profile.meaning c.args.profile.now in
    let es = c.events-events.result.now in
    let list = c.pushing-count.new.list in
    let E = take (c.pushing-count.result - 0) list in
    let pushing = listed_front m es _ list c.pushing-count.result (c.pushing-count.ensures.told m es c.in-Ok.ensures) in
    let leading = (rw c.in_ok-precedence.ensures.ok_part at c.precedence_of.ensures) es c.in-Ok-of.ensures c.events-events.ensures.proper in
    let few = c.pushing-count.ensures.few in
    let long = c.pushing-count.array_long in
    let count : c.pushing-count.result ≡ length E = omega (arith, length-take-le (c.pushing-count.result - 0) list (omega arith)) in
    let told = tell_found m es _ c.events-events.ensures.value c.args.buffer.now c.if-buffer-lt-LEAST_BUFFER.false E pushing
    c.in_ok-precedence.precedence leading (not_from_Decides c.has_cycle.result (c.has_cycle.ensures es c.in-Ok-of.ensures) c.if-has_cycle.false)
    c.in-Some.order c.write_order.new.buffer c.pushing-count.result (c.in-Some.ensures m c.in-Ok.ensures) count c.write_order.ensures in
    record { answered = told.answered; only = told.only }

pub returns-in-None : goal.returns-in-None
returns-in-None g c =
    let m = g.P.Profile.meaning c.args.profile.now in
    let es = c.events-events.result.now in
    let list = c.pushing-count.new.list in
    let E = take (c.pushing-count.result - 0) list in
    let pushing = listed_front m es _ list c.pushing-count.result (c.pushing-count.ensures.told m es c.in-Ok.ensures) in
    let leading = (rw c.in_ok-precedence.ensures.ok_part at c.precedence_of.ensures) es c.in-Ok-of.ensures c.events-events.ensures.proper in
    let some = (rw c.in_ok-ok_or.ensures.ok_part at c.find_order.ensures).front.passing.order in
    let told = tell_none m es _ c.events-events.ensures.value c.args.buffer.now c.if-buffer-lt-LEAST_BUFFER.false E pushing
    c.in_ok-precedence.precedence leading (not_from_Decides c.has_cycle.result (c.has_cycle.ensures es c.in-Ok-of.ensures) c.if-has_cycle.false)
    _ some (c.in-None.ensures m c.in-Ok.ensures) in
    record { answered = told.answered; only = told.only }
