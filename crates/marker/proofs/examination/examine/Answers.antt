use Rattle.std.proofs.Common.{◌≤◌, [], length, ◌∙◌, subst, rules}
use Rattle.graph.specs.Holds.{added_events}
use Rattle.marker.specs.Entries.{Performed}
use Rattle.marker.proofs.Handing.{graph_proper, wrote_within, own_read, own_none}
use Rattle.marker.proofs.Keeping.{agreement, finds_permitted, finds_sequential}
use Rattle.marker.proofs.examination.examine.Goals as goal
use Rattle.marker.proofs.examination.examine.Goals.{in-Ok, in-Err}

pub slice_bounds-mark-end : goal.slice_bounds-mark-end
slice_bounds-mark-end g c =
    let within : c.in-Ok.length ≤ length c.judge-judged.new.buffer = wrote_within _ _ _ _ _ _ _ c.in-Ok.is c.judge-judged.ensures in
    search rules

pub returns : goal.returns
returns g c =
    let m = g.P.Profile.meaning c.args.profile.now in
    let graph = c.perform_all.new.graph in
    let es = added_events graph in
    let proper = graph_proper graph in
    record {
      promise = record {
        history = subst (λ xs. Performed xs [] graph c.args.entries.now c.perform_all.new.entries) c.new-graph.ensures.slice
            (c.perform_all.ensures.told [] c.new-graph.ensures.empty);
        agreement = agreement m es proper;
        search = finds_permitted m es;
        single_order = finds_sequential m es proper;
        handed_back = record {
          judged = elim c.match-judged.branch [
            | in-Ok w ↦ rw w.judged-is (rw w.in-Ok.is at c.judge-judged.ensures)
            | in-Err w ↦ rw w.judged-is c.judge-judged.ensures
          ];
          own_marked = elim c.match-judged.branch [
            | in-Ok w ↦ own_read m es c.judge-judged.new.buffer _ _ w.judged-is _ w.mark.ensures.outcome _ w.own-is
            | in-Err w ↦ own_none m es c.judge-judged.new.buffer _ _ (w.judged-is ∙ w.in-Err.is) _ w.own-is
          ];
          brought_marked = c.mark-brought.ensures.outcome;
          searched = c.search-searched.ensures.answered;
        };
      };
      lent = c.perform_all.ensures.lent ∙ c.new-graph.ensures.lent;
    }
