-- What the steps of `taken` do: a pair or eight are tested, or their data taken, and what is left is what the contract says of the rest.
-- Assumes nothing.
use mathlib.Core.Path.{◌≡◌, refl, sym, ap, ap₂, ◌∙◌}
use mathlib.Core.Bool.{Bool, true, false, ◌&&◌, and-true, and_assoc}
use mathlib.Core.Logic.{◌⊎◌, inl, inr, ⊎_elim}
use mathlib.Core.List.{List, [], ◌∷◌, ◌++◌}
use Prim.Native.Nat.{ℕ, zero, suc, ◌+◌, ◌-◌, ◌*◌, ◌≤◌, ◌<◌, min}
use native.Mathlib.Numerals.{add-one, add-two}
use native.Mathlib.Omega.{arith}
use lib.Bits.{bit_or, bit_xor, or_add_and, and_le_r, xor_self}
use lib.Dec.{eqb, leb}
use lib.ListN.{length, get_or, take, drop, set, length-drop, drop_of_length-le}
use lib.Seq.{drop-cons, drop-drop, take-add, take-take, take_all, take-nil, get_or-take, get_or-drop, length-take-le}
use borrow.Author.Tests.{eqb-true, eqb-false, eq-eqb, ne_eqb, leb-true, leb-false}
use Rattle.check_byte.specs.CheckByte.{check_byte}
use Rattle.check_byte.proofs.Xor.{xor_zero}
use Rattle.frames.specs.Frames.{right, data_of}
use Rattle.frames.specs.Put.{put}
use Rattle.frames.proofs.Checked.{length_data}
use Rattle.frames.proofs.Parts.{right_append, data_append, take_data}
use Rattle.frames.proofs.Put.{put_none, put_more, put_put}

-- ---- a pair
module _ (l : List ℕ) (i : ℕ) (h : i + 1 < length l) where
  next_two : drop i l ≡ get_or l i 0 ∷ get_or l (i + 1) 0 ∷ drop (i + 2) l
  next_two =
      let here : i < length l = omega arith in
      let there : suc i < length l = omega arith in
      rw (add-one, add-two, drop-cons l i 0, drop-cons l (suc i) 0)

  next_right : right [] (drop i l) ≡ (eqb (get_or l (i + 1) 0) (check_byte (get_or l i 0 ∷ [])) && right [] (drop (i + 2) l))
  unfolding right
  next_right = rw next_two

  next_data : data_of (drop i l) ≡ get_or l i 0 ∷ data_of (drop (i + 2) l)
  unfolding data_of
  next_data = rw next_two

-- no difference so far, and none here
or_zero : (a b : ℕ) → eqb (bit_or a b) 0 ≡ (eqb a 0 && eqb b 0)
or_zero zero b = refl
or_zero (suc a) b =
    ne_eqb (bit_or (suc a) b) 0 (λ e. omega (arith, or_add_and (suc a) b, and_le_r (suc a) b))
    ∙ ap (λ (t : Bool). t && eqb b 0) (sym (ne_eqb (suc a) 0 (λ e. omega arith)))

xor_eqb : (a b : ℕ) (t : Bool) → eqb a b ≡ t → eqb (bit_xor a b) 0 ≡ t
xor_eqb a b true e = eq-eqb _ 0 (ap (bit_xor a) (sym (eqb-true a b e)) ∙ xor_self a)
xor_eqb a b false e = ne_eqb _ 0 (λ z. eqb-false a b e (xor_zero a b z))

none_wrong : (wrong x c : ℕ) → eqb (bit_or wrong (bit_xor x c)) 0 ≡ (eqb wrong 0 && eqb x c)
none_wrong wrong x c = or_zero wrong (bit_xor x c) ∙ ap (λ (t : Bool). eqb wrong 0 && t) (xor_eqb x c (eqb x c) refl)

-- ---- eight pairs, from the index at on
module _ (l : List ℕ) (at : ℕ) (room : at + 16 ≤ length l) where
  abbrev eight : List ℕ
  eight = take 16 (drop at l)

  length_eight : length eight ≡ 16
  length_eight = length-take-le 16 (drop at l) (omega (arith, length-drop at l))

  eight_at : (i j : ℕ) → i < 16 → at + i ≡ j → get_or eight i 0 ≡ get_or l j 0
  eight_at i j h e = get_or-take 16 (drop at l) i 0 h ∙ get_or-drop at l i 0 ∙ ap (λ (k : ℕ). get_or l k 0) e

  module _ (i j : ℕ) (h : i < 8) (is : at + 2 * i ≡ j) where
    first : get_or eight (2 * i) 0 ≡ get_or l j 0
    first = eight_at (2 * i) j (omega arith) is

    -- a pair is tested: the differences are zero still where it is right
    pub tested_pair : (wrong c j' : ℕ) → j + 1 ≡ j' → c ≡ check_byte (get_or l j 0 ∷ [])
        → (eqb wrong 0 && right [] (drop (2 * i) eight))
        ≡ (eqb (bit_or wrong (bit_xor (get_or l j' 0) c)) 0 && right [] (drop (2 * (i + 1)) eight))
    tested_pair wrong c j' next e =
        let rest = right [] (drop (2 * (i + 1)) eight) in
        let second : get_or eight (2 * i + 1) 0 ≡ get_or l j' 0 = eight_at (2 * i + 1) j' (omega arith) (omega arith) in
        let after : 2 * (i + 1) ≡ 2 * i + 2 = omega arith in
        let pair : right [] (drop (2 * i) eight) ≡ (eqb (get_or l j' 0) c && rest) =
        next_right eight (2 * i) (omega (arith, length_eight)) ∙ rw (first, second, e, after) in
        ap (λ (t : Bool). eqb wrong 0 && t) pair
        ∙ sym (and_assoc (eqb wrong 0) (eqb (get_or l j' 0) c) rest)
        ∙ ap (λ (t : Bool). t && rest) (sym (none_wrong wrong (get_or l j' 0) c))

    -- a data byte is stored, and the rest follows
    pub carried_one : (out : List ℕ) (to : ℕ) → to + i < length out
        → put (set out (to + i) (get_or l j 0)) (to + (i + 1)) (data_of (drop (2 * (i + 1)) eight)) ≡ put out (to + i) (data_of (drop (2 * i) eight))
    carried_one out to fits =
        let after : 2 * (i + 1) ≡ 2 * i + 2 = omega arith in
        let later : to + (i + 1) ≡ to + i + 1 = omega arith in
        let two : 2 * i + 1 < length eight = omega (arith, length_eight) in
        rw (after, later, ← put_more out (to + i) (get_or l j 0) (data_of (drop (2 * i + 2) eight)), next_data eight (2 * i), first)

  module _ (i : ℕ) (h : 8 ≤ i) where
    none_left : drop (2 * i) eight ≡ []
    none_left = drop_of_length-le eight {i = 2 * i} (omega (arith, length_eight))

    -- no pair is left to test, and no byte to store
    pub tested_all : (wrong : ℕ) → (eqb wrong 0 && right [] (drop (2 * i) eight)) ≡ eqb wrong 0
    unfolding right
    tested_all wrong = rw none_left (and-true (eqb wrong 0))

    pub carried_all : (out : List ℕ) (to : ℕ) → put out to (data_of (drop (2 * i) eight)) ≡ out
    unfolding data_of
    carried_all out to = rw none_left (put_none out to)

-- ---- the frame, as far as it is told
-- the first pair is tested, and then the rest
pub tested_first : (before l : List ℕ) (n c : ℕ) → 2 ≤ length l → c ≡ check_byte (before ++ get_or l 0 0 ∷ [])
    → right before (take (n + 2) l) ≡ (eqb (get_or l 1 0) c && right [] (take n (drop 2 l)))
unfolding right
tested_first before [] n c h e = absurd (omega arith)
tested_first before (x ∷ []) n c h e = absurd (omega arith)
tested_first before (x ∷ y ∷ l) n c h e = rw (add-two, e)

-- eight pairs are tested, and then the rest
pub tested_eight : (l : List ℕ) (eights k : ℕ) (r : Bool) → 16 * k + 18 ≤ length l → k < eights
    → r ≡ right [] (take 16 (drop (16 * k + 2) l))
    → right [] (take (16 * (eights - k)) (drop (16 * k + 2) l)) ≡ (r && right [] (take (16 * (eights - (k + 1))) (drop (16 * (k + 1) + 2) l)))
tested_eight l eights k r h more e =
    let rest = drop (16 * k + 2) l in
    let left = 16 * (eights - (k + 1)) in
    let count : 16 * (eights - k) ≡ 16 + left = omega arith in
    let after : 16 * k + 2 + 16 ≡ 16 * (k + 1) + 2 = omega arith in
    ap (λ (n : ℕ). right [] (take n rest)) count
    ∙ ap (right []) (take-add 16 left rest)
    ∙ right_append (take 16 rest) (take left (drop 16 rest)) (omega (arith, length_eight l (16 * k + 2) (omega arith)))
    ∙ ap₂ (λ (t : Bool) (later : List ℕ). t && right [] (take left later))
    (sym e)
    (drop-drop 16 (16 * k + 2) l ∙ ap (λ (n : ℕ). drop n l) after)

-- the data of eight pairs is stored after that of the pairs before them
pub carried_eight : (l out : List ℕ) (k : ℕ) → 16 * k + 16 ≤ length l → 8 * k ≤ length out
    → put (put out 0 (data_of (take (16 * k) l))) (8 * k) (data_of (take 16 (drop (16 * k) l))) ≡ put out 0 (data_of (take (16 * (k + 1)) l))
carried_eight l out k h room =
    let before = take (16 * k) l in
    let these = take 16 (drop (16 * k) l) in
    let size : length before ≡ 16 * k = length-take-le (16 * k) l (omega arith) in
    let half : 0 + length (data_of before) ≡ 8 * k = omega (arith, length_data before) in
    let after : 16 * (k + 1) ≡ 16 * k + 16 = omega arith in
    ap (λ (at : ℕ). put (put out 0 (data_of before)) at (data_of these)) (sym half)
    ∙ put_put out 0 (data_of before) (omega arith) (data_of these)
    ∙ ap (put out 0) (sym (data_append before these (omega arith)))
    ∙ ap (λ (v : List ℕ). put out 0 (data_of v)) (sym (take-add (16 * k) 16 l) ∙ ap (λ (n : ℕ). take n l) (sym after))

-- as many eights are passed as are told, or the four that 66 bytes have
module _ (l : List ℕ) (eights k : ℕ) (size : length l ≡ 66) (end : k ≡ min eights 4) where
  few_or_four : (eights ≤ k) ⊎ (4 ≤ k)
  few_or_four = by (leb eights 4) refl
    where
      by : (t : Bool) → leb eights 4 ≡ t → (eights ≤ k) ⊎ (4 ≤ k)
      by true e = let h = leb-true eights 4 e in inl (omega arith)
      by false e = let h = leb-false eights 4 e in inr (omega arith)

  pub tested_eights : right [] (take (16 * (eights - k)) (drop (16 * k + 2) l)) ≡ true
  unfolding right
  tested_eights =
      ⊎_elim
      (λ (h : eights ≤ k). let none : 16 * (eights - k) ≡ 0 = omega arith in rw none)
      (λ (h : 4 ≤ k).
      let past : length l ≤ 16 * k + 2 = omega arith in
      rw (drop_of_length-le l past, take-nil (16 * (eights - k))))
      few_or_four

  pub carried_eights : take 32 (data_of (take (16 * eights) l)) ≡ data_of (take (16 * k) l)
  carried_eights =
      take_data 32 (take (16 * eights) l)
      ∙ ap data_of
      (⊎_elim
      (λ (h : eights ≤ k).
      let same : 16 * eights ≡ 16 * k = omega arith in
      ap (λ (n : ℕ). take 64 (take n l)) same
      ∙ take_all 64 (take (16 * k) l) (omega (arith, length-take-le (16 * k) l (omega arith))))
      (λ (h : 4 ≤ k).
      let all : 64 ≡ 16 * k = omega arith in
      take-take 64 (16 * eights) l (omega arith) ∙ ap (λ (n : ℕ). take n l) all)
      few_or_four)
