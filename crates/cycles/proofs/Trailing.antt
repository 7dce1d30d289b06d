-- The way from s back to s, as far as it is written.
use Rattle.std.proofs.Common.{◌≡◌, ℕ, suc, ◌+◌, ◌-◌, ◌<◌, List, [], ◌∷◌, ◌++◌, length, get_or, drop, set, sym, refl, ap, ◌∙◌, subst, arith}
use Rattle.std.proofs.lemmas.List.{append_assoc, append-nil, drop_all, drop_more, set_at, length_push}
use borrow.Rule.Slice.PartMut.{put_mid}
use Rattle.measures.specs.Walks.{at}
use Rattle.cycles.specs.Distances.{Onward, Way, Traced}

-- The first i vertices between are written, the last of them v, and any way on from v makes a whole way.
pub record Trail (R : ℕ → ℕ → Type 0) (n : ℕ) (ys : List ℕ) (s k : ℕ) (old : List ℕ) (i v : ℕ) (new : List ℕ) : Type 0 where
  pub between : List ℕ
  pub count : length between ≡ i
  pub front : new ≡ between ++ drop i old
  pub below : v < n
  pub left : at n ys v s + i ≡ k
  pub whole : (ws : List ℕ) → Way R n ys s v ws → Way R n ys s s (between ++ ws)

module _ (R : ℕ → ℕ → Type 0) (n : ℕ) (ys : List ℕ) (s k : ℕ) where
  pub trail_start : (old : List ℕ) → s < n → at n ys s s ≡ k → Trail R n ys s k old 0 s old
  trail_start old p is = record {
    between = [];
    count = refl;
    front = refl;
    below = p;
    left = omega arith;
    whole = λ ws way. way;
  }

  pub trail_more : (old new : List ℕ) (i v w : ℕ) → Trail R n ys s k old i v new → i < length old → w < n →
      Onward R n ys s v w → Trail R n ys s k old (i + 1) w (set new i w)
  trail_more old new i v w t room p on = record {
    between = t.between ++ w ∷ [];
    count = omega (arith, length_push t.between w, t.count);
    front =
        ap (λ l. set l i w) (t.front ∙ ap (λ l. t.between ++ l) (drop_more old i 0 room))
        ∙ set_at t.between (get_or old i 0) (drop (i + 1) old) w i t.count
        ∙ sym (append_assoc t.between (w ∷ []) (drop (i + 1) old));
    below = p;
    left = omega (arith, on.nearer, t.left);
    whole = λ ws way. subst (Way R n ys s s) (sym (append_assoc t.between (w ∷ []) ws)) (t.whole (w ∷ ws) (on, way));
  }

  -- The vertices between stand behind the first one in the buffer.
  pub trail_end : (buffer old new : List ℕ) (i v : ℕ) → Trail R n ys s k old i v new → length old ≡ i → i + 1 ≡ k → 0 < length buffer → R v s →
      Traced R n ys s k buffer (put_mid 1 (k - 1) (set buffer 0 s) new)
  trail_end [] old new i v t all count some last = absurd (omega arith)
  trail_end (x ∷ buffer) old new i v t all count some last = record {
    between = t.between;
    way = subst (Way R n ys s s) (append-nil t.between) (t.whole [] last);
    count = omega (arith, t.count);
    front =
        ap (λ l. s ∷ (l ++ drop (k - 1) buffer)) (t.front ∙ ap (λ l. t.between ++ l) (drop_all i old (omega arith)) ∙ append-nil t.between)
        ∙ ap (λ l. s ∷ (t.between ++ l)) (ap (λ j. drop j (x ∷ buffer)) one);
  }
    where
      one : suc (k - 1) ≡ k
      one = omega arith
