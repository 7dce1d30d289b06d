-- A table of visibility that is drawn from what a profile was asked tells the profile's visibility.
use Rattle.std.proofs.Common.{ℕ, List, sym, ◌∙◌, ◌≡◌, subst}
use Rattle.graph.specs.declared.event.Event.{Event}
use Rattle.profiles.specs.Meaning.{Meaning}
use Rattle.axioms.specs.declared.pairs.Pairs.{Pairs}
use Rattle.axioms.specs.Asked.{Asked}
use Rattle.axioms.specs.Relations.{Kept, Pushed}
use Rattle.axioms.specs.Tables.{Drawn}
use Rattle.axioms.specs.EventTables.{cells_of}
use Rattle.coherence.specs.declared.sight.Sight.{Sight}
use Rattle.coherence.specs.declared.visibility.Visibility.{Visibility}
use Rattle.coherence.specs.Seen.{VisibilityOf}
use Rattle.coherence.specs.Visibility.{Told}
use Rattle.coherence.proofs.Drawable.{lawful_within}

pub asked_told : (m : Meaning) (es : List Event) (L : List ℕ) (p : Pairs) → Asked m es p → (kept pushed : List ℕ) →
    Drawn (Kept m es) p.kept.side kept → Drawn (Pushed m es) p.kept.side pushed → (v : Visibility) → VisibilityOf es kept pushed L v →
    (s : Sight) → s.events.now ≡ v.events.now → s.leads.now ≡ cells_of v.table → Told m s.events.now L s.leads.now
asked_told m es L p asked kept pushed is-kept is-pushed v seen s events leads =
    let told = seen.within m (lawful_within m asked.lawful es)
    (subst (λ n. Drawn (Kept m es) n kept) asked.side is-kept)
    (subst (λ n. Drawn (Pushed m es) n pushed) asked.side is-pushed) in
    subst (λ ys. Told m s.events.now L ys) (sym leads) (subst (λ xs. Told m xs L (cells_of v.table)) (sym (events ∙ seen.events)) told)
