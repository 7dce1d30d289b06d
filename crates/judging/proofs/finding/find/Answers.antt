use Rattle.std.proofs.Common.{sym, ◌∙◌}
use Rattle.std.proofs.lemmas.Bool.{false≢true}
use Rattle.judging.specs.Judging.{not_lawful}
use Rattle.coherence.proofs.AskedVisibility.{asked_told}
use Rattle.judging.proofs.finding.find.Goals as goal

pub returns-in-Some : goal.returns-in-Some
returns-in-Some g c =
    let m = g.P.Profile.meaning c.args.profile.now in
    let L = c.args.list.now in
    let es = c.events-events.result.now in
    let w = c.in-Some.ensures m L in
    rw (← c.events-events.ensures.value) (record {
      pushing = (c.is_push_order.ensures m es c.in-Ok.ensures).0 c.if-not-is_push_order.false;
      finds = record { shows = w.chain; least = w.least };
    })

pub returns-then-not-is_lawful : goal.returns-then-not-is_lawful
returns-then-not-is_lawful g c =
    let m = g.P.Profile.meaning c.args.profile.now in
    let es = c.events-events.result.now in
    let pushing = (c.is_push_order.ensures m es c.in-Ok.ensures).0 c.if-not-is_push_order.false in
    rw (← c.events-events.ensures.value)
    (not_lawful pushing c.in_default-find_source_cycle.ensures
    (λ lawful. false≢true (sym c.if-not-is_lawful.true ∙ (c.is_lawful.ensures es c.in-Ok-of.ensures c.events-events.ensures.proper pushing.once).1 lawful))
    c.into-then-not-is_lawful.ensures)

pub find_coherence_cycle-requires : goal.find_coherence_cycle-requires
find_coherence_cycle-requires g c =
    let m = g.P.Profile.meaning c.args.profile.now in
    let es = c.events-events.result.now in
    let L = c.args.list.now in
    let asked = c.in-Ok.ensures in
    let told = asked_told m es L c.in-Ok.pairs asked _ _ (c.kept.ensures.told m es asked) (c.pushed.ensures.told m es asked) c.in-Ok-of-2.visibility c.in-Ok-of-2.ensures
    c.sight.result c.sight.ensures.events c.sight.ensures.leads in
    record { meaning = m; list = L; told = told }

pub returns-in-Some-find_coherence_cycle : goal.returns-in-Some-find_coherence_cycle
returns-in-Some-find_coherence_cycle g c =
    let m = g.P.Profile.meaning c.args.profile.now in
    let es = c.events-events.result.now in
    let L = c.args.list.now in
    let asked = c.in-Ok.ensures in
    let pushing = (c.is_push_order.ensures m es asked).0 c.if-not-is_push_order.false in
    let told = asked_told m es L c.in-Ok.pairs asked _ _ (c.kept.ensures.told m es asked) (c.pushed.ensures.told m es asked) c.in-Ok-of-2.visibility c.in-Ok-of-2.ensures
    c.sight.result c.sight.ensures.events c.sight.ensures.leads in
    let same = c.sight.ensures.events ∙ c.in-Ok-of-2.ensures.events in
    let w = rw same at (c.in-Some-find_coherence_cycle.ensures m L told) in
    rw (← c.events-events.ensures.value) (record {
      pushing = pushing;
      finds = record {
        shows = (
          record {
            sources = c.in_default-find_source_cycle.ensures;
            lawful = (c.is_lawful.ensures es c.in-Ok-of.ensures c.events-events.ensures.proper pushing.once).0 c.if-not-is_lawful.false;
          },
          w.chain,
        );
        least = w.least;
      };
    })

pub returns-in-None : goal.returns-in-None
returns-in-None g c =
    let m = g.P.Profile.meaning c.args.profile.now in
    let es = c.events-events.result.now in
    let L = c.args.list.now in
    let asked = c.in-Ok.ensures in
    let pushing = (c.is_push_order.ensures m es asked).0 c.if-not-is_push_order.false in
    let told = asked_told m es L c.in-Ok.pairs asked _ _ (c.kept.ensures.told m es asked) (c.pushed.ensures.told m es asked) c.in-Ok-of-2.visibility c.in-Ok-of-2.ensures
    c.sight.result c.sight.ensures.events c.sight.ensures.leads in
    let same = c.sight.ensures.events ∙ c.in-Ok-of-2.ensures.events in
    rw (← c.events-events.ensures.value) (record {
      pushing = pushing;
      finds = record {
        shows = (
          record {
            sources = c.in_default-find_source_cycle.ensures;
            lawful = (c.is_lawful.ensures es c.in-Ok-of.ensures c.events-events.ensures.proper pushing.once).0 c.if-not-is_lawful.false;
          },
          (rw same at (c.in-None.ensures m L told), c.none-steps.ensures),
        );
        least = tt;
      };
    })
