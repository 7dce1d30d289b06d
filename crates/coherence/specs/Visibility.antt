-- The table of visibility: what leads where by its steps. Throughout, es are the added events, m is what a profile means, L is a list of
-- events, and a table has a row and a column for each event.
--
--   Fits es xs         the table xs is square, with a row for each event; at most 56 events are added
--   Told m es L xs     xs tells what leads where by steps of visibility
--   Within m es        the profile keeps and pushes between events of the graph
--   DrawnVisibility    what `draw_visibility` answers: three tables that fit, and then the lent one tells visibility for every
--                      profile that the other two tell; or one that does not fit, and the lent one is as it was
--   DrawnWithin        the same, and the lent table tells visibility for every meaning within the graph, lawful or not
--   Gained n S xs ys   a table that gained the steps of S
--   PushedLater        a step from an event to whatever a later event of L is pushed to by the table xs
use Rattle.std.specs.Prelude.{◌≡◌, ℕ, ◌+◌, ◌<◌, true, ◌⊎◌, List, length, Decides, Result, MatchResult}
use Rattle.measures.specs.declared.settling.Refusal.{Refusal}
use Rattle.measures.specs.declared.settling.Refusal.TheVariants.{NotSquare}
use Rattle.measures.specs.Outcome.{Square}
use Rattle.measures.specs.Reach.{yes}
use Rattle.measures.specs.Walks.{at, Leads, Yes}
use Rattle.graph.specs.declared.event.Event.{Event}
use Rattle.graph.specs.Events.{Present}
use Rattle.profiles.specs.Laws as profiles
use Rattle.profiles.specs.Meaning.{Meaning}
use Rattle.axioms.specs.Orders.{Before}
use Rattle.axioms.specs.Relations.{Kept, Pushed, Vvo}
use Rattle.axioms.specs.Tables.{Drawn}

abbrev pub Fits : List Event → List ℕ → Type 0
Fits es xs = Square (length es + 8) xs

pub record Told (m : Meaning) (es : List Event) (L xs : List ℕ) : Type 0 where
  pub fits : Fits es xs
  pub drawn : Drawn (Leads (Vvo m es L)) (length es + 8) xs

abbrev pub AllFit : List Event → List ℕ → List ℕ → List ℕ → Type 0
AllFit es kept pushed xs = Fits es kept × (Fits es pushed × Fits es xs)

pub record Within (m : Meaning) (es : List Event) : Type 0 where
  pub kept : (a b : ℕ) → Kept m es a b → Present es b
  pub pushed : (a b : ℕ) → Pushed m es a b → Present es a × Present es b

pub record Refused (es : List Event) (kept pushed xs ys : List ℕ) (why : Refusal) : Type 0 where
  pub refusal : why ≡ NotSquare
  pub unfit : AllFit es kept pushed xs → ⊥
  pub untouched : ys ≡ xs

-- the lent table held xs, and holds ys
abbrev pub DrawnVisibility : List Event → List ℕ → List ℕ → List ℕ → List ℕ → List ℕ → Result (Unit {0}) Refusal → Type 0
DrawnVisibility es kept pushed L xs ys r =
    MatchResult r
    (λ _. AllFit es kept pushed xs
    × ((m : Meaning) → profiles.Lawful m → Drawn (Kept m es) (length es + 8) kept → Drawn (Pushed m es) (length es + 8) pushed → Told m es L ys))
    (Refused es kept pushed xs ys)

-- the same for every meaning that keeps and pushes between events of the graph, lawful or not
abbrev pub DrawnWithin : List Event → List ℕ → List ℕ → List ℕ → List ℕ → List ℕ → Result (Unit {0}) Refusal → Type 0
DrawnWithin es kept pushed L xs ys r =
    MatchResult r
    (λ _. AllFit es kept pushed xs
    × ((m : Meaning) → Within m es → Drawn (Kept m es) (length es + 8) kept → Drawn (Pushed m es) (length es + 8) pushed → Told m es L ys))
    (Refused es kept pushed xs ys)

abbrev pub Gained : ℕ → (ℕ → ℕ → Type 0) → List ℕ → List ℕ → Type 0
Gained n S xs ys = (a b : ℕ) → a < n → b < n → Decides (yes (at n ys a b)) ((yes (at n xs a b) ≡ true) ⊎ S a b)

pub record PushedLater (n : ℕ) (xs L : List ℕ) (a c : ℕ) : Type 0 where
  pub by : ℕ
  pub earlier : Before L a by
  pub pushed : Yes n xs by c
