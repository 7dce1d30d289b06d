-- Which events push, read off the table of pushed pairs.
use Rattle.std.proofs.Common.{ℕ, ◌<◌, Bool, false, List, get_or, Decides, ◌∙◌, arith}
use Rattle.std.proofs.lemmas.Bool.Decides.{Decides-like}
use Rattle.graph.specs.declared.event.Event.{Event}
use Rattle.profiles.specs.Meaning.{Meaning}
use Rattle.axioms.specs.declared.pairs.Pairs.{Pairs}
use Rattle.axioms.specs.Asked.{Asked}
use Rattle.axioms.specs.EventTables.{Says}
use Rattle.axioms.specs.PushOrders.{Lists, Increasing, Pushing, CountPushing, Front}
use Rattle.axioms.specs.Relations.{Pushed, Pushes, PushOrder}
use Rattle.axioms.proofs.Asking.{pushed_within}
use Rattle.axioms.proofs.Any.{Among}
use Rattle.axioms.proofs.SameLength.{same_length}

module _ (m : Meaning) (es : List Event) (p : Pairs) (asked : Asked m es p) where
  -- A pushing event, and one that it is pushed to, have a row and a column.
  within : (a b : ℕ) → Pushed m es a b → (a < p.kept.side) × (b < p.kept.side)
  within a b q =
      let w = pushed_within m asked.lawful es a b q in
      (omega (arith, w.0, asked.side), omega (arith, w.1, asked.side))

  pub row_told : (a : ℕ) (r : Bool) → Decides r (Among 0 p.kept.side (λ b. Says p.pushed a b)) → Decides r (Pushes m es a)
  row_told a r =
      Decides-like r (λ h. (h.0, (asked.pushed a h.0 h.3.row h.3.column).0 h.3.is_yes))
      (λ q.
      let w = within a q.0 q.1 in
      let row : a < p.pushed.side = omega (arith, w.0, p.one_side) in
      let column : q.0 < p.pushed.side = omega (arith, w.1, p.one_side) in
      (q.0, omega arith, w.1, record { row = row; column = column; is_yes = (asked.pushed a q.0 row column).1 q.1 }))

  -- A list of the marked events is a push order, where the flags are those of the pushing events.
  module _ (F : List Bool) (told : (a : ℕ) → Decides (get_or F a false) (Pushes m es a)) where
    pub listed_pushes : (L : List ℕ) → Lists F L → PushOrder m es L
    listed_pushes L h = record {
      each = λ a l. (told a).0 (h.each a l);
      all = λ a q. h.all a ((told a).1 q);
      once = h.once;
    }

    pub decides_push_order : (L : List ℕ) (r : Bool) → Decides r (Lists F L) → Decides r (PushOrder m es L)
    decides_push_order L r = Decides-like r (listed_pushes L) (λ h. record {
      each = λ a l. (told a).1 (h.each a l);
      all = λ a q. h.all a ((told a).0 q);
      once = h.once;
    })

    pub front_pushing : (old new : List ℕ) (k : ℕ) → Front (λ L. Lists F L × Increasing L) old new k → Front (Pushing m es) old new k
    front_pushing old new k f = record {
      written = f.written;
      holds = record { order = listed_pushes f.written f.holds.0; increasing = f.holds.1 };
      count = f.count;
      front = f.front;
    }

pub front_counts : (m : Meaning) (es : List Event) (old new : List ℕ) (k : ℕ) → Front (Pushing m es) old new k → CountPushing m es k
front_counts m es old new k f = record {
  events = f.written;
  pushing = f.holds;
  count = f.count;
  every = λ L o. same_length m es L f.written o f.holds.order ∙ f.count;
}
