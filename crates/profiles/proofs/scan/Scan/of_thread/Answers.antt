use Rattle.std.proofs.Common.{◌≡◌, [], nat_eq, rules, tests, sym, subst}
use Rattle.std.specs.List.{fold}
use Rattle.std.proofs.lemmas.Iterator.{YieldsList-from_slice}
use Rattle.std.proofs.lemmas.Iterator.Consumers.{YieldsList-from_filter, fold_from_yields_List}
use Rattle.profiles.specs.Scans.{stepped, Met}
use Rattle.profiles.specs.Threads.{in_thread, codes_of}
use Rattle.profiles.proofs.Scanning.{met_all}
use Rattle.profiles.proofs.scan.Scan.of_thread.Goals as goal

pub returns : goal.returns
returns c =
    let t = c.args.thread in
    let es = c.args.events.now in
    let scanned : c.fold.result ≡ fold (λ s e. stepped s e.code) c.new.result (in_thread t es) =
    fold_from_yields_List _ (λ s e. stepped s e.code) c.new.result c.fold.result c.fold.ensures.ran
    (YieldsList-from_filter _ (λ e. nat_eq e.thread t) (YieldsList-from_slice es cc) c.filter.ensures.closure (λ x b q k. search (rules, tests)))
    (λ a x b q k. search (rules, tests)) in
    subst (λ s. Met s (codes_of t es)) (sym scanned) (met_all c.new.result [] (in_thread t es) c.new.ensures)
