use Rattle.profiles.specs.Jam21Rules.{told_kept, told_pushed}
use Rattle.profiles.proofs.Summaries.{rule_by_rule}
use Rattle.profiles.proofs.jam21.Rules.of.Goals as goal

pub returns : goal.returns
returns c =
    let es = c.args.events.now in
    let a = c.args.a in
    let b = c.args.b in
    let by = rule_by_rule es a b c.of.result c.default.result c.map_or.result c.default.ensures c.of.ensures c.map_or.ensures in
    record {
      ra = by.ra;
      svo = by.svo;
      spush = by.spush;
      volint = by.volint;
      kept = told_kept es a b _ _ _ _ by.ra by.svo by.spush by.volint;
      pushed = told_pushed es a b _ _ _ _ by.ra by.svo by.spush by.volint;
    }
