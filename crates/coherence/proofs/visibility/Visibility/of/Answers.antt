use Rattle.std.proofs.Common.{refl, ◌∙◌, subst}
use Rattle.measures.specs.Outcome.{Square}
use Rattle.coherence.proofs.Drawable.{lawful_within}
use Rattle.coherence.proofs.VisibilityTable.{cells_fit, told_within}
use Rattle.coherence.proofs.visibility.Visibility.of.Goals as goal

pub returns : goal.returns
returns c =
    let es = c.args.events.now in
    let copied = c.in_ok-table.ensures in
    let steps = c.add_push_steps.ensures in
    let sources = c.add_sources.ensures in
    let told = told_within es c.args.list.now c.args.kept.now c.args.pushed.now c.in_ok-table.table c.add_push_steps.new.table c.add_sources.new.table c.settle.new.self
    copied steps.steps (sources.side ∙ steps.side) sources.steps c.settle.ensures in
    record {
      events = refl;
      kept_fits = copied.fits;
      pushed_fits = subst (λ n. Square n c.args.pushed.now) (c.side.ensures.value ∙ copied.side) c.in_ok-check_square.ensures;
      fits = cells_fit es c.args.list.now c.args.kept.now c.args.pushed.now c.in_ok-table.table c.add_push_steps.new.table c.add_sources.new.table c.settle.new.self
          copied steps.steps (sources.side ∙ steps.side) sources.steps c.settle.ensures;
      drawn = λ m law. told m (lawful_within m law es);
      within = told;
    }
