-- A lawful profile keeps and pushes between events of the graph.
use Rattle.std.proofs.Common.{ℕ, List, Ok, Err, Result}
use Rattle.measures.specs.declared.settling.Refusal.{Refusal}
use Rattle.graph.specs.declared.event.Event.{Event}
use Rattle.profiles.specs.Laws.{Lawful}
use Rattle.profiles.specs.Meaning.{Meaning}
use Rattle.coherence.specs.Visibility.{Within, DrawnVisibility, DrawnWithin}

pub lawful_within : (m : Meaning) → Lawful m → (es : List Event) → Within m es
lawful_within m law es = record {
  kept = λ a b k. (law.ordered es a b k).added.1;
  pushed = λ a b p. ((law.from_added es a b p).1, (law.ordered es a b (law.narrower es a b p)).added.1);
}

-- What holds of every meaning within the graph holds of every lawful profile.
pub drawn_for_lawful : (es : List Event) (kept pushed L xs ys : List ℕ) (r : Result (Unit {0}) Refusal) → DrawnWithin es kept pushed L xs ys r → DrawnVisibility es kept pushed L xs ys r
drawn_for_lawful es kept pushed L xs ys (Ok u) h = (h.0, λ m law. h.1 m (lawful_within m law es))
drawn_for_lawful es kept pushed L xs ys (Err why) h = h
