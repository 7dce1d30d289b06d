-- In a proper graph of sc accesses each event is of a block: a write with its readers, which goes by the write.
use Rattle.std.proofs.Common.{◌≡◌, ℕ, ◌+◌, ◌-◌, Bool, true, false, ◌⊎◌, List, length, Some, None, Option, sym, refl, ap, ◌∙◌, subst, inl, inr, ⊎_elim, arith}
use Rattle.std.proofs.lemmas.List.{get_or_past}
use Rattle.std.proofs.lemmas.Bool.{cases_Bool, cases_lt, true≢false}
use Rattle.graph.specs.declared.code.Code.{Code}
use Rattle.graph.specs.declared.event.Event.{Event}
use Rattle.graph.specs.Codes.{is_read, is_write}
use Rattle.graph.specs.Events.{event, absent, Present, Added}
use Rattle.graph.specs.Order.{Names, Rf}
use Rattle.graph.specs.Proper.{Draws, Proper}
use Rattle.profiles.specs.Modes.{is_sc_access}
use Rattle.profiles.specs.Ordered.{event_added, event_initial}
use Rattle.sequential.specs.Single.{AllSc}

sc_reads : (c : Code) → is_sc_access c ≡ true → is_write c ≡ false → is_read c ≡ true
sc_reads c e h = grind arith

read_not_write : (c : Code) → is_read c ≡ true → is_write c ≡ false
read_not_write c e = grind arith

-- no absent number reads as a write
pub write_present : (es : List Event) (n : ℕ) → is_write (event es n).code ≡ true → Present es n
write_present es n w =
    elim (cases_lt n (length es + 8)) [
      | inl l ↦ l
      | inr l ↦
          let gone = event_added es n (omega arith) ∙ get_or_past es (n - 8) absent (omega arith) in
          absurd (true≢false (sym w ∙ ap (λ x. is_write x.code) gone))
    ]

named : (o : Option ℕ) (w : ℕ) → Names o w → o ≡ Some w
named (Some s) w e = ap Some e
named None w e = absurd e

a_source : (es : List Event) (l : ℕ) (o : Option ℕ) → Draws es l o → (w : ℕ) × Names o w
a_source es l (Some w) d = (w, refl)
a_source es l None d = absurd d

abbrev block_by : Bool → ℕ → Option ℕ → ℕ
block_by true e o = e
block_by false e (Some w) = w
block_by false e None = e

-- a write is of its own block, and a read of its source's
pub block : List Event → ℕ → ℕ
block es e = block_by (is_write (event es e).code) e (event es e).source

pub write_block : (es : List Event) (e : ℕ) → is_write (event es e).code ≡ true → block es e ≡ e
unfolding block
write_block es e w = rw w refl

module _ (es : List Event) (proper : Proper es) where
  rf_reads : (w r : ℕ) → Rf es w r → is_read (event es r).code ≡ true
  rf_reads w r f =
      elim (cases_Bool (is_read (event es r).code)) [
        | inl e ↦ e
        | inr e ↦ absurd (subst (λ o. Names o w) ((proper r f.added).none e) f.source)
      ]

  -- a source is a present write of the read's location
  pub rf_draws : (w r : ℕ) → Rf es w r → Draws es (event es r).location (Some w)
  rf_draws w r f = subst (Draws es (event es r).location) (named (event es r).source w f.source) ((proper r f.added).drawn (rf_reads w r f))

  pub read_block : (w r : ℕ) → Rf es w r → block es r ≡ w
  unfolding block
  read_block w r f = rw (read_not_write (event es r).code (rf_reads w r f), named (event es r).source w f.source) refl

  pub read_not_block : (w r : ℕ) → Rf es w r → block es r ≡ r → ⊥
  read_not_block w r f q =
      let writes : is_write (event es r).code ≡ true = subst (λ x. is_write (event es x).code ≡ true) (sym (read_block w r f) ∙ q) (rf_draws w r f).1 in
      true≢false (sym writes ∙ read_not_write (event es r).code (rf_reads w r f))

  module _ (sc : AllSc es) where
    pub block_ways : (e : ℕ) → Present es e → ((is_write (event es e).code ≡ true) × (block es e ≡ e)) ⊎ Rf es (block es e) e
    block_ways e l =
        elim (cases_Bool (is_write (event es e).code)) [
          | inl w ↦ inl (w, write_block es e w)
          | inr w ↦ inr (of_read w)
        ]
      where
        added : is_write (event es e).code ≡ false → Added es e
        added w =
            elim (cases_lt e 8) [
              | inl k ↦ absurd (true≢false (sym (ap (λ x. is_write x.code) (event_initial es e k)) ∙ w))
              | inr k ↦ (k, l)
            ]

        of_read : is_write (event es e).code ≡ false → Rf es (block es e) e
        of_read w =
            let there = added w in
            let s = a_source es (event es e).location (event es e).source ((proper e there).drawn (sc_reads (event es e).code (sc e there) w)) in
            let f : Rf es s.0 e = record { added = there; source = s.1 } in
            subst (λ x. Rf es x e) (sym (read_block s.0 e f)) f

    pub block_writes : (e : ℕ) → Present es e → is_write (event es (block es e)).code ≡ true
    block_writes e l = ⊎_elim (λ w. ap (λ x. is_write (event es x).code) w.1 ∙ w.0) (λ f. (rf_draws (block es e) e f).1) (block_ways e l)

    pub block_location : (e : ℕ) → Present es e → (event es (block es e)).location ≡ (event es e).location
    block_location e l = ⊎_elim (λ w. ap (λ x. (event es x).location) w.1) (λ f. (rf_draws (block es e) e f).2) (block_ways e l)
