-- The rules by their tests: visibility as its table tells it, between events of the graph.
use Rattle.std.proofs.Common.{◌≡◌, ℕ, ◌+◌, ◌-◌, ◌<◌, ◌≤◌, true, false, List, length, get_or, Some, None, ap, ◌∙◌, inl, inr, arith}
use Rattle.std.proofs.lemmas.List.{get_or_past}
use Rattle.std.proofs.lemmas.Bool.{cases_lt, cond-true, cond-false, lt-ltb, le-ltb, both_ways}
use Rattle.graph.specs.declared.event.Event.{Event}
use Rattle.graph.specs.Codes.{is_write}
use Rattle.graph.specs.Events.{event, initial_write, absent, Present}
use Rattle.graph.specs.Lookup.{lookup}
use Rattle.graph.specs.Order.{Rf}
use Rattle.profiles.specs.Meaning.{Meaning}
use Rattle.axioms.specs.Relations.{Visible, Rivals, ReadBetween}
use Rattle.coherence.specs.Sights.{Seen, ReadsLocation}

pub event_past : (es : List Event) (n : ℕ) → length es + 8 ≤ n → event es n ≡ absent
event_past es n past =
    cond-false _ (initial_write n) (get_or es (n - 8) absent) (le-ltb n 8 (omega arith)) ∙ get_or_past es (n - 8) absent (omega arith)

pub write_present : (es : List Event) (n : ℕ) → is_write (event es n).code ≡ true → Present es n
write_present es n writes =
    elim (cases_lt n (length es + 8)) [
      | inl h ↦ h
      | inr past ↦ absurd (both_ways (is_write (event es n).code) (ap (λ e. is_write e.code) (event_past es n past)) writes)
    ]

pub lookup_none : (es : List Event) (n : ℕ) → lookup es n ≡ None → length es + 8 ≤ n
lookup_none es n none =
    elim (cases_lt n (length es + 8)) [
      | inl h ↦
          let there : lookup es n ≡ Some (event es n) = cond-true _ (Some (event es n)) None (lt-ltb n (length es + 8) h) in
          absurd (let z : ◌≡◌ {A = ℕ} 0 1 = cc in omega arith)
      | inr past ↦ past
    ]

pub no_write : (es : List Event) (n : ℕ) → lookup es n ≡ None → is_write (event es n).code ≡ false
no_write es n none = ap (λ e. is_write e.code) (event_past es n (lookup_none es n none))

-- What the rules but corr ask of visibility lies between events of the graph.
module _ (m : Meaning) (es : List Event) (L : List ℕ) (p q r : ℕ) where
  pub coww_seen : Rivals es p q × Visible m es L p q → Seen m es L p q
  coww_seen h = record { row = write_present es p h.0.first; column = write_present es q h.0.second; visible = h.1 }

  pub cowr_seen : Rivals es p q × (Rf es q r × Visible m es L p r) → Seen m es L p r
  cowr_seen h = record { row = write_present es p h.0.first; column = h.1.0.added.1; visible = h.1.1 }

  module _ (h : Rivals es p q × ReadBetween m es L p r q) where
    column : r < length es + 8
    column = let earlier = h.1.before.earlier in let within = h.1.before.added.1 in omega arith

    pub corw_seen : Seen m es L p r
    corw_seen = record { row = write_present es p h.0.first; column = column; visible = h.1.visible }

    pub corw_reads : ReadsLocation es r p
    corw_reads = record { reader = column; other = write_present es p h.0.first; reads = h.1.reads; location = h.1.location }
