-- Events with an interval of time, a location and a block: where steps between the blocks make no cycle, some order puts
-- each event within its interval and keeps the blocks of a location apart. Nothing here is of graphs.
use Rattle.std.proofs.Common.{◌≡◌, ℕ, suc, ◌<◌, ◌≤◌, Bool, true, false, ◌&&◌, eqb, leb, sym, refl, ap, ◌∙◌, subst, inl, inr, ⊎_elim, arith}
use Rattle.std.proofs.lemmas.Bool.{cases_eq, cases_lt, eq-eqb, ne_eqb, eqb-true, le-leb, leb-true, and_parts, and_from}
use Rattle.cycles.specs.Cycles.{NoCycle}
use Rattle.sequential.proofs.Below.{greatest, greatest_le, greatest_lt}
use Rattle.sequential.proofs.Keys.{lex, lex_first, lex_second, lex_same, lex_le, lex_eq}
use Rattle.sequential.proofs.Ranks.{Step, rank, rank_up}

-- The events are the numbers below n. Each has a time from `opens` to before `closes`, a location, and a block of that
-- location, which goes by its first member. Where an event closes before one of another block of its location opens,
-- there is a step between their blocks.
pub record Timed (n : ℕ) (opens closes location block : ℕ → ℕ) (step : ℕ → ℕ → Bool) : Type 0 where
  pub block_in : (e : ℕ) → e < n → block e < n
  pub block_own : (e : ℕ) → e < n → block (block e) ≡ block e
  pub block_location : (e : ℕ) → e < n → location (block e) ≡ location e
  pub lasts : (e : ℕ) → e < n → opens e < closes e
  pub block_opens : (e : ℕ) → e < n → opens (block e) < closes e
  pub steps : (a e : ℕ) → a < n → e < n → (block a ≡ block e → ⊥) → location a ≡ location e → closes a ≤ opens e → Step step (block a) (block e)
  pub no_cycle : NoCycle (Step step)

-- Keys of the events, all different: what closes before another event opens comes before it, and a block's first member comes before
-- the others, with no first member of another block of the location between.
pub record Keyed (n : ℕ) (opens closes location block : ℕ → ℕ) : Type 0 where
  pub key : ℕ → ℕ
  pub apart : (a b : ℕ) → a < n → b < n → key a ≡ key b → a ≡ b
  pub onward : (a c : ℕ) → a < n → c < n → closes a ≤ opens c → key a < key c
  pub first : (e : ℕ) → e < n → (block e ≡ e → ⊥) → key (block e) < key e
  pub latest : (e v : ℕ) → e < n → v < n → block v ≡ v → location v ≡ location e → key (block e) < key v → key v < key e → ⊥

abbrev unless_first : Bool → ℕ → ℕ
unless_first true k = 0
unless_first false k = suc k

unless_first_le : (t : Bool) (k : ℕ) → unless_first t k ≤ suc k
unless_first_le true k = omega arith
unless_first_le false k = omega arith

module _ (n : ℕ) (opens closes location block : ℕ → ℕ) (step : ℕ → ℕ → Bool) (h : Timed n opens closes location block step) where
  -- The order within a location goes by the block, by its rank first, then
  block_key : ℕ → ℕ
  block_key = lex n (λ e. rank step n (block e)) block

  -- by the turn within the block, the first member before the others and those by when they open, and then
  turn : ℕ → ℕ
  turn e = unless_first (eqb (block e) e) (opens e)

  -- by number.
  member_key : ℕ → ℕ
  member_key = lex n turn (λ e. e)

  local_key : ℕ → ℕ
  local_key = lex n block_key member_key

  block_key_same : (a b : ℕ) → block a ≡ block b → block_key a ≡ block_key b
  unfolding block_key
  block_key_same a b e = lex_same n (λ x. rank step n (block x)) block a b (ap (rank step n) e) e

  block_key_tells : (a b : ℕ) → a < n → b < n → block_key a ≡ block_key b → block a ≡ block b
  unfolding block_key
  block_key_tells a b k m e = (lex_eq n (λ x. rank step n (block x)) block a b k m e).1

  turn_first : (e : ℕ) → block e ≡ e → turn e ≡ 0
  unfolding turn
  turn_first e q = ap (λ t. unless_first t (opens e)) (eq-eqb (block e) e q)

  turn_other : (e : ℕ) → (block e ≡ e → ⊥) → turn e ≡ suc (opens e)
  unfolding turn
  turn_other e q = ap (λ t. unless_first t (opens e)) (ne_eqb (block e) e q)

  turn_le : (e : ℕ) → turn e ≤ suc (opens e)
  unfolding turn
  turn_le e = unless_first_le (eqb (block e) e) (opens e)

  local_by_turn : (a b : ℕ) → a < n → block a ≡ block b → turn a < turn b → local_key a < local_key b
  unfolding local_key member_key
  local_by_turn a b k e p = lex_second n block_key member_key a b (omega (arith, block_key_same a b e)) (lex_first n turn (λ x. x) a b k p)

  local_by_step : (a b : ℕ) → a < n → b < n → Step step (block a) (block b) → local_key a < local_key b
  unfolding local_key block_key
  local_by_step a b k m s =
      lex_first n block_key member_key a b k
      (lex_first n (λ e. rank step n (block e)) block a b k (rank_up step h.no_cycle n (block a) (block b) (h.block_in a k) s))

  local_block : (a b : ℕ) → b < n → local_key a ≤ local_key b → block_key a ≤ block_key b
  unfolding local_key
  local_block a b k c = lex_le n block_key member_key a b k c

  -- What is not after a in the order of its location opens before a closes.
  opens_before : (e a : ℕ) → e < n → a < n → location e ≡ location a → local_key e ≤ local_key a → opens e < closes a
  opens_before e a k m q c = ⊎_elim same differ (cases_eq (block a) (block e))
    where
      same : block a ≡ block e → opens e < closes a
      same s =
          elim (cases_eq (block e) e) [
            | inl own ↦ subst (λ x. opens x < closes a) (s ∙ own) (h.block_opens a m)
            | inr other ↦
                elim (cases_lt (turn a) (turn e)) [
                  | inl p ↦ absurd (omega (arith, local_by_turn a e m s p))
                  | inr p ↦ omega (arith, turn_other e other, turn_le a, h.lasts a m)
                ]
          ]

      differ : (block a ≡ block e → ⊥) → opens e < closes a
      differ d =
          elim (cases_lt (opens e) (closes a)) [
            | inl p ↦ p
            | inr p ↦ absurd (omega (arith, local_by_step a e m k (h.steps a e m k d (sym q) p)))
          ]

  -- k stands at e or before it in the order of e's location
  upto : ℕ → ℕ → Bool
  upto e k = eqb (location k) (location e) && leb (local_key k) (local_key e)

  upto_out : (e k : ℕ) → upto e k ≡ true → (location k ≡ location e) × (local_key k ≤ local_key e)
  unfolding upto
  upto_out e k t =
      let p = and_parts (eqb (location k) (location e)) (leb (local_key k) (local_key e)) t in
      (eqb-true (location k) (location e) p.0, leb-true (local_key k) (local_key e) p.1)

  upto_in : (e k : ℕ) → location k ≡ location e → local_key k ≤ local_key e → upto e k ≡ true
  unfolding upto
  upto_in e k p q =
      and_from (eqb (location k) (location e)) (leb (local_key k) (local_key e)) (eq-eqb (location k) (location e) p) (le-leb (local_key k) (local_key e) q)

  -- The time of e: when the last of those opens.
  time : ℕ → ℕ
  time e = greatest (upto e) opens n

  time_low : (e : ℕ) → e < n → opens e ≤ time e
  unfolding time
  time_low e k = greatest_le (upto e) opens n e k (upto_in e e refl (omega arith))

  time_high : (e : ℕ) → e < n → time e < closes e
  unfolding time
  time_high e k = greatest_lt (upto e) opens n (closes e) (omega (arith, h.lasts e k)) (λ x m t. let p = upto_out e x t in opens_before x e m k p.0 p.1)

  time_up : (a b : ℕ) → location a ≡ location b → local_key a ≤ local_key b → time a ≤ time b
  unfolding time
  time_up a b q c =
      let p = greatest_lt (upto a) opens n (suc (time b)) (omega arith)
      (λ x m t. let o = upto_out a x t in omega (arith, greatest_le (upto b) opens n x m (upto_in b x (o.0 ∙ q) (omega (arith, o.1))))) in
      omega arith

  key_of : ℕ → ℕ
  key_of = lex n time local_key

  key_local : (a b : ℕ) → location a ≡ location b → local_key a < local_key b → key_of a < key_of b
  unfolding key_of
  key_local a b q c = lex_second n time local_key a b (time_up a b q (omega arith)) c

  local_tells : (a b : ℕ) → location a ≡ location b → key_of a < key_of b → local_key a ≤ local_key b
  local_tells a b q k = ⊎_elim (λ p. absurd (omega (arith, key_local b a (sym q) p))) (λ p. p) (cases_lt (local_key b) (local_key a))

  key_apart : (a b : ℕ) → a < n → b < n → key_of a ≡ key_of b → a ≡ b
  unfolding key_of local_key member_key
  key_apart a b k m e = (lex_eq n turn (λ x. x) a b k m (lex_eq n block_key member_key a b k m (lex_eq n time local_key a b k m e).1).1).1

  key_onward : (a c : ℕ) → a < n → c < n → closes a ≤ opens c → key_of a < key_of c
  unfolding key_of
  key_onward a c k m p = lex_first n time local_key a c k (omega (arith, time_high a k, time_low c m))

  key_first : (e : ℕ) → e < n → (block e ≡ e → ⊥) → key_of (block e) < key_of e
  key_first e k other =
      key_local (block e) e (h.block_location e k)
      (local_by_turn (block e) e (h.block_in e k) (h.block_own e k) (omega (arith, turn_first (block e) (h.block_own e k), turn_other e other)))

  -- v stands between the first member of e's block and e, so it is of that block; but it is the first of its own.
  key_latest : (e v : ℕ) → e < n → v < n → block v ≡ v → location v ≡ location e → key_of (block e) < key_of v → key_of v < key_of e → ⊥
  key_latest e v k m own q x y =
      let low = local_block (block e) v m (local_tells (block e) v (h.block_location e k ∙ sym q) x) in
      let high = local_block v e k (local_tells v e q y) in
      let same = block_key_tells v e m k (omega (arith, block_key_same (block e) e (h.block_own e k))) in
      omega (arith, ap key_of (sym own ∙ same))

  pub keyed : Keyed n opens closes location block
  keyed = record { key = key_of; apart = key_apart; onward = key_onward; first = key_first; latest = key_latest }
