-- A frame with zeros after it: pairs of zero are right, and their data is zero.
-- Assumes nothing.
use mathlib.Core.Path.{◌≡◌, refl, sym, ap, ap₂, ◌∙◌}
use mathlib.Core.Bool.{Bool, true, ◌&&◌, and-true}
use mathlib.Core.List.{List, [], ◌∷◌, ◌++◌, append_assoc}
use Prim.Native.Nat.{ℕ, zero, suc, ◌+◌, ◌-◌, ◌*◌, ◌/◌, ◌%◌, ◌≤◌}
use native.Mathlib.Omega.{arith}
use lib.Dec.{eqb}
use lib.ListN.{length, take, drop, replicate, length-append, length-replicate, replicate-append-replicate}
use lib.Seq.{take_all, drop_at}
use borrow.Author.Tests.{eq-eqb}
use Rattle.check_byte.specs.CheckByte.{check_byte}
use Rattle.check_byte.proofs.Zeros.{zero_alone}
use Rattle.frames.specs.Frames.{read_byte, right, data_of}
use Rattle.frames.specs.Put.{put}
use Rattle.frames.proofs.Checked.{length_data}
use Rattle.frames.proofs.Parts.{right_append, data_append}
use Rattle.frames.proofs.Put.{take_front}

abbrev zeros : ℕ → List ℕ
zeros n = replicate n 0

-- ---- zeros are put on zeros
length_zeros : (n : ℕ) → length (zeros n) ≡ n
length_zeros n = length-replicate n 0

drop_zeros : (k n : ℕ) → drop k (zeros (k + n)) ≡ zeros n
drop_zeros k n = ap (drop k) (sym (replicate-append-replicate k n 0)) ∙ drop_at (zeros k) (zeros n) k (length_zeros k)

after : (v : List ℕ) (size n : ℕ) → length v + n ≡ size → put (zeros size) 0 v ≡ v ++ zeros n
unfolding put
after v size n e =
    let start : 0 + length v ≡ length v = omega arith in
    rw (← e, start) (ap (◌++◌ v) (drop_zeros (length v) n))

module _ (v : List ℕ) (n size : ℕ) (room : length v + n ≤ size) where
  length_then : length (v ++ zeros n) ≡ length v + n
  length_then = length-append v (zeros n) ∙ ap (◌+◌ (length v)) (length_zeros n)

  put_zeros : put (zeros size) 0 (v ++ zeros n) ≡ put (zeros size) 0 v
  put_zeros =
      let left = size - (length v + n) in
      after (v ++ zeros n) size left (omega (arith, length_then))
      ∙ append_assoc v (zeros n) (zeros left)
      ∙ ap (◌++◌ v) (replicate-append-replicate n left 0)
      ∙ sym (after v size (n + left) (omega arith))

  take_zeros : take (length v + n) (put (zeros size) 0 v) ≡ v ++ zeros n
  take_zeros =
      ap₂ take (sym length_then) (sym put_zeros)
      ∙ take_front (zeros size) (v ++ zeros n) (omega (arith, length_then, length_zeros size))

-- ---- pairs of zero
right_zeros : (n : ℕ) → right [] (zeros (2 * n)) ≡ true
unfolding right
right_zeros zero = refl
right_zeros (suc n) =
    let two : 2 * suc n ≡ suc (suc (2 * n)) = omega arith in
    rw two (ap₂ ◌&&◌ (eq-eqb 0 _ (sym zero_alone)) (right_zeros n))

data_zeros : (n : ℕ) → data_of (zeros (2 * n)) ≡ zeros n
unfolding data_of
data_zeros zero = refl
data_zeros (suc n) =
    let two : 2 * suc n ≡ suc (suc (2 * n)) = omega arith in
    rw two (ap (◌∷◌ 0) (data_zeros n))

right_then : (before f : List ℕ) (n : ℕ) → 1 ≤ length f → length f % 2 ≡ 0 → right before (f ++ zeros (2 * n)) ≡ right before f
unfolding right
right_then before [] n some even = absurd (omega arith)
right_then before (x ∷ []) n some even = absurd (omega arith)
right_then before (x ∷ c ∷ rest) n some even =
    ap (λ (t : Bool). eqb c (check_byte (before ++ x ∷ [])) && t)
    (right_append rest (zeros (2 * n)) (omega arith) ∙ rw (right_zeros n) (and-true (right [] rest)))

-- ---- a frame of n pairs in the first places of 66 zeros, and the eights that it reaches into
module _ (f p : List ℕ) (n : ℕ) (is : p ≡ put (replicate 66 0) 0 f) (size : length f ≡ 2 * n) (some : 1 ≤ n) (few : n ≤ 30) where
  abbrev eights : ℕ
  eights = (n + 7) / 8

  -- the frame's pairs, and m more
  taken_zeros : (m : ℕ) → n + m ≤ 33 → take (2 * (n + m)) p ≡ f ++ zeros (2 * m)
  taken_zeros m h =
      let count : 2 * (n + m) ≡ length f + 2 * m = omega arith in
      ap₂ take count is ∙ take_zeros f (2 * m) 66 (omega arith)

  taken_data : data_of (take (16 * eights) p) ≡ data_of f ++ zeros (8 * eights - n)
  taken_data =
      let count : 16 * eights ≡ 2 * (n + (8 * eights - n)) = omega arith in
      ap (λ (k : ℕ). data_of (take k p)) count
      ∙ ap data_of (taken_zeros (8 * eights - n) (omega arith))
      ∙ data_append f (zeros (2 * (8 * eights - n))) (omega arith)
      ∙ ap (◌++◌ (data_of f)) (data_zeros (8 * eights - n))

  length_frame : length (data_of f) ≡ n
  length_frame = omega (arith, length_data f)

  pub padded_right : (address : ℕ) → right (read_byte address ∷ []) (take (16 * ((n + 7) / 8) + 2) p) ≡ right (read_byte address ∷ []) f
  padded_right address =
      let before = read_byte address ∷ [] in
      let count : 16 * eights + 2 ≡ 2 * (n + (8 * eights + 1 - n)) = omega arith in
      ap (λ (k : ℕ). right before (take k p)) count
      ∙ ap (right before) (taken_zeros (8 * eights + 1 - n) (omega arith))
      ∙ right_then before f (8 * eights + 1 - n) (omega arith) (omega arith)

  padded_put : put (replicate 32 0) 0 (take 32 (data_of (take (16 * ((n + 7) / 8)) p))) ≡ put (replicate 32 0) 0 (data_of f)
  padded_put =
      let more = zeros (8 * eights - n) in
      let fits : length (data_of f ++ more) ≤ 32 =
      omega (arith, length_frame, length-append (data_of f) more, length_zeros (8 * eights - n)) in
      ap (λ (v : List ℕ). put (zeros 32) 0 (take 32 v)) taken_data
      ∙ ap (put (zeros 32) 0) (take_all 32 (data_of f ++ more) fits)
      ∙ put_zeros (data_of f) (8 * eights - n) 32 (omega (arith, length_frame))

  pub padded_data : take n (put (replicate 32 0) 0 (take 32 (data_of (take (16 * ((n + 7) / 8)) p)))) ≡ data_of f
  padded_data =
      ap₂ take (sym length_frame) padded_put
      ∙ take_front (zeros 32) (data_of f) (omega (arith, length_frame, length_zeros 32))
