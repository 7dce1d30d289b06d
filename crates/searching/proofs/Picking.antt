-- The events at the places that an order names, one by one.
use Rattle.std.proofs.Common.{◌≡◌, ℕ, zero, suc, ◌+◌, ◌-◌, ◌<◌, ◌≤◌, List, [], ◌∷◌, ◌++◌, length, get_or, take, drop, set, replicate, sym, refl, ap, ◌∙◌, arith}
use Rattle.std.proofs.lemmas.List.{append_assoc, map-append, length-map, length-take-le, set_at, take_more, drop_more}
use Rattle.searching.specs.Listing.{picked}

pub length_picked : (E q : List ℕ) → length (picked E q) ≡ length q
length_picked E q = length-map q (λ x. get_or E x 0)

pub picked_append : (E p q : List ℕ) → picked E (p ++ q) ≡ picked E p ++ picked E q
picked_append E p q = map-append (λ x. get_or E x 0) p q

pub get_d_picked : (E q : List ℕ) (i : ℕ) → i < length q → get_or (picked E q) i 0 ≡ get_or E (get_or q i 0) 0
get_d_picked E [] i h = absurd (omega arith)
get_d_picked E (x ∷ q) zero h = refl
get_d_picked E (x ∷ q) (suc i) h = get_d_picked E q i (omega arith)

-- One more event goes behind those that are written.
pub write_more : (E q : List ℕ) (i y : ℕ) (ys : List ℕ) → i < length q →
    set (picked E (take i q) ++ (y ∷ ys)) i (get_or E (get_or q i 0) 0) ≡ picked E (take (i + 1) q) ++ ys
write_more E q i y ys h =
    let p = picked E (take i q) in
    let v = get_or E (get_or q i 0) 0 in
    let long : length p ≡ i = length_picked E (take i q) ∙ length-take-le i q (omega arith) in
    let more : picked E (take (i + 1) q) ≡ p ++ (v ∷ []) =
    ap (picked E) (take_more q i 0 h) ∙ picked_append E (take i q) (get_or q i 0 ∷ []) in
    set_at p y ys v i long ∙ sym (append_assoc p (v ∷ []) ys) ∙ ap (λ r. r ++ ys) (sym more)

-- What `pick` writes, and then zeros.
pub pick_more : (E q : List ℕ) (i : ℕ) → i < length q → length q ≤ 8 → (list : List ℕ) → list ≡ picked E (take i q) ++ replicate (9 - i) 0 →
    set list i (get_or E (get_or q i 0) 0) ≡ picked E (take (i + 1) q) ++ replicate (9 - (i + 1)) 0
pick_more E q i h few list is =
    let one : 9 - i ≡ suc (9 - (i + 1)) = omega arith in
    ap (λ l. set l i (get_or E (get_or q i 0) 0)) (is ∙ ap (λ k. picked E (take i q) ++ replicate k 0) one)
    ∙ write_more E q i 0 (replicate (9 - (i + 1)) 0) h

-- What `write_order` writes, and then what stood there.
pub order_more : (E q old : List ℕ) (i : ℕ) → i < length q → i < length old → (new : List ℕ) → new ≡ picked E (take i q) ++ drop i old →
    set new i (get_or E (get_or q i 0) 0) ≡ picked E (take (i + 1) q) ++ drop (i + 1) old
order_more E q old i h room new is =
    ap (λ l. set l i (get_or E (get_or q i 0) 0)) (is ∙ ap (λ r. picked E (take i q) ++ r) (drop_more old i 0 room))
    ∙ write_more E q i (get_or old i 0) (drop (i + 1) old) h
