-- Writing at the front of a buffer, one part after another.
--
--   Front n xs old new   the first n places of new hold xs, and the rest is that of old
use Rattle.std.proofs.Common.{◌≡◌, ℕ, ◌+◌, ◌-◌, ◌*◌, ◌<◌, ◌≤◌, List, [], ◌∷◌, ◌++◌, length, get_or, take, drop, set, sym, refl, ap, ◌∙◌, arith, length-append}
use lib.Seq.{paste}
use borrow.Rule.Slice.PartMut.{put_mid}
use Rattle.std.specs.List.{flat_map}
use Rattle.std.proofs.lemmas.List.{take_at, take_all, length-take-le, drop_at, drop-drop, drop_more, set_at, append_assoc, length_push}
use Rattle.std.proofs.lemmas.List.Edits.{paste-paste}
use Rattle.std.proofs.lemmas.List.Prefix.{front_fits}
use Rattle.std.proofs.lemmas.Slice.{put_mid-paste}
use Rattle.sheets.specs.declared.step.Step.{Step}
use Rattle.sheets.specs.Steps.{step_bytes}
use Rattle.sheets.specs.Sheets.{Sheet, encode}
use Rattle.sheets.specs.Verdicts.{number}
use Rattle.sheets.specs.Written.{NoRoom, Wrote}
use Rattle.sheets.proofs.Bytes.{length_steps, steps_more}

pub record Front (n : ℕ) (xs old new : List ℕ) : Type 0 where
  pub size : length xs ≡ n
  pub is : new ≡ xs ++ drop n old

pub front_none : (old : List ℕ) → Front 0 [] old old
front_none old = record { size = refl; is = refl }

pub front_put : (n b : ℕ) (xs old new : List ℕ) → Front n xs old new → n < length old → Front (n + 1) (xs ++ b ∷ []) old (set new n b)
front_put n b xs old new f h = record {
  size = length_push xs b ∙ ap (λ k. k + 1) f.size;
  is =
      ap (λ ys. set ys n b) (f.is ∙ ap (λ ys. xs ++ ys) (drop_more old n 0 h))
      ∙ set_at xs (get_or old n 0) (drop (n + 1) old) b n f.size
      ∙ sym (append_assoc xs (b ∷ []) (drop (n + 1) old));
}

pub front_paste : (n k : ℕ) (xs ys old new : List ℕ) → Front n xs old new → length ys ≡ k → Front (n + k) (xs ++ ys) old (paste new n ys k)
front_paste n k xs ys old new f size =
    let front : take n new ≡ xs = ap (take n) f.is ∙ take_at xs (drop n old) n f.size in
    let part : take k ys ≡ ys = take_all k ys (omega arith) in
    let behind : drop n new ≡ drop n old = ap (drop n) f.is ∙ drop_at xs (drop n old) n f.size in
    let rest : drop (n + k) new ≡ drop (n + k) old = sym (drop-drop k n new) ∙ ap (drop k) behind ∙ drop-drop k n old in
    record {
      size = length-append xs ys ∙ omega (arith, f.size);
      is = cc;
    }

-- The verdict, the push order after its count, and the count of the steps.
pub front_head : (v n m : ℕ) (order old mid : List ℕ) → n ≡ length order → mid ≡ order → 2 + n < length old →
    Front (2 + n + 1) ((v ∷ n ∷ order) ++ m ∷ []) old (set (put_mid 2 (2 + n - 2) (set (set old 0 v) 1 n) mid) (2 + n) m)
front_head v n m order old mid long same room =
    let two = front_put 1 n (v ∷ []) old (set old 0 v) (front_put 0 v [] old old (front_none old) (omega arith)) (omega arith) in
    let listed = front_paste 2 n (v ∷ n ∷ []) order old (set (set old 0 v) 1 n) two (sym long) in
    let copied = put_mid-paste 2 (2 + n - 2) (set (set old 0 v) 1 n) mid order n same (omega arith) long in
    front_put (2 + n) m (v ∷ n ∷ order) old _ (record { size = listed.size; is = copied ∙ listed.is }) room

-- One step more, behind those that are written.
pub one_step_more : (xs old base now mid : List ℕ) (start at i : ℕ) (ss : List Step) (d : Step) → Front start xs old base → i < length ss →
    at ≡ start + i * 5 → now ≡ paste base start (flat_map step_bytes (take i ss)) (i * 5) → mid ≡ step_bytes (get_or ss i d) →
    put_mid at (at + 5 - at) now mid ≡ paste base start (flat_map step_bytes (take (i + 1) ss)) ((i + 1) * 5)
one_step_more xs old base now mid start at i ss d f h is so_far same =
    let five = put_mid-paste at (at + 5 - at) now mid (step_bytes (get_or ss i d)) 5 same (omega arith) refl in
    let size : i * 5 ≡ length (flat_map step_bytes (take i ss)) =
    omega (arith, length_steps (take i ss), length-take-le i ss (omega arith)) in
    let fits : start ≤ length base = omega (arith, front_fits base xs (drop start old) f.is, f.size) in
    let two = paste-paste base start (flat_map step_bytes (take i ss)) (step_bytes (get_or ss i d)) (i * 5) 5 size refl fits in
    let more = steps_more ss i d h in
    let count : i * 5 + 5 ≡ (i + 1) * 5 = omega arith in
    cc

-- The whole sheet.
pub wrote : (s : Sheet) (old base new : List ℕ) (v at i : ℕ) → (NoRoom s old → ⊥) → v ≡ number s.verdict →
    Front (2 + length s.order + 1) ((v ∷ length s.order ∷ s.order) ++ length s.steps ∷ []) old base →
    i ≡ length s.steps → at ≡ 2 + length s.order + 1 + i * 5 →
    new ≡ paste base (2 + length s.order + 1) (flat_map step_bytes (take i s.steps)) (i * 5) →
    Wrote s old new at
unfolding encode
wrote s old base new v at i room is f all end done =
    let every : take i s.steps ≡ s.steps = take_all i s.steps (omega arith) in
    let size : length (flat_map step_bytes (take i s.steps)) ≡ i * 5 = ap (λ ss. length (flat_map step_bytes ss)) every ∙ length_steps s.steps ∙ ap (λ n. n * 5) (sym all) in
    let whole = front_paste (2 + length s.order + 1) (i * 5) ((v ∷ length s.order ∷ s.order) ++ length s.steps ∷ [])
    (flat_map step_bytes (take i s.steps)) old base f size in
    let bytes = append_assoc (v ∷ length s.order ∷ s.order) (length s.steps ∷ []) (flat_map step_bytes s.steps) in
    let told : ((v ∷ length s.order ∷ s.order) ++ length s.steps ∷ []) ++ flat_map step_bytes (take i s.steps) ≡ encode s = cc in
    record {
      room = room;
      told = end ∙ sym whole.size ∙ ap length told;
      front = done ∙ whole.is ∙ cc;
    }
