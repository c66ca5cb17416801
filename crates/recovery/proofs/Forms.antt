-- The registers that a cut `init` leaves, and what a further write of the six bytes or of 05 makes of them.
-- Assumes nothing.
use mathlib.Core.Path.{◌≡◌, refl, sym, ap, ◌∙◌}
use mathlib.Core.Bool.{Bool, true, false}
use mathlib.Core.List.{List, [], ◌∷◌, ◌++◌}
use Prim.Native.Nat.{ℕ, ◌+◌, ◌/◌, ◌%◌, ◌≤◌, ◌<◌, max}
use native.Mathlib.Omega.{arith}
use lib.Arith.{bin_ind}
use lib.ListN.{length, take, drop, get_or, set, length-take, length-set, length-append}
use lib.Seq.{length-take-le, take-set-lt, drop-set-lt, set-append_left}
use lib.Seq.{get_or-set_same, get_or-set_other, set-set}
use lib.Bits.{bit_or, or_step, or_self}
use Rattle.frames.specs.Put.{put}
use Rattle.frames.proofs.Put.{put_none, length_put, put_over, put_more, put_parts}
use Rattle.chip.proofs.FirstPart.{old_below, old_above}
use Rattle.recovery.specs.Recovery.{first_new, bit6, counted, regs_left}

-- ---- bits set twice
or_again : (b a : ℕ) → bit_or (bit_or a b) b ≡ bit_or a b
or_again b a =
    bin_ind (λ (n : ℕ). (b : ℕ) → bit_or (bit_or n b) b ≡ bit_or n b) or_self (λ n ih b. step n b (ih (b / 2))) a b
  where
    step : (n b : ℕ) → bit_or (bit_or (n / 2) (b / 2)) (b / 2) ≡ bit_or (n / 2) (b / 2) → bit_or (bit_or n b) b ≡ bit_or n b
    step n b ih =
        let high : bit_or n b / 2 ≡ bit_or (n / 2) (b / 2) = omega (arith, or_step n b) in
        let low : bit_or n b % 2 ≡ max (n % 2) (b % 2) = omega (arith, or_step n b) in
        omega (arith, or_step (bit_or n b) b, or_step n b, ap (λ (k : ℕ). bit_or k (b / 2)) high ∙ ih, low)

pub put_one : (l : List ℕ) (at x : ℕ) → at < length l → put l at (x ∷ []) ≡ set l at x
put_one l at x h = put_more l at x [] h ∙ put_none (set l at x) _

put_set : (l v : List ℕ) (at i x : ℕ) → i < at → at + length v ≤ length l → put (set l i x) at v ≡ set (put l at v) i x
unfolding put
put_set l v at i x h room =
    let size = length-take-le at l (omega arith) in
    rw (take-set-lt at l i x h, drop-set-lt (at + length v) l i x (omega arith))
    (sym (set-append_left (take at l ++ v) (drop (at + length v) l) i x (simp length-append (omega arith))
    ∙ ap (λ (u : List ℕ). u ++ drop (at + length v) l) (set-append_left (take at l) v i x (omega arith))))

counted_again : (l : List ℕ) → 5 < length l → counted (counted l) ≡ counted l
counted_again l h =
    let byte = bit_or (get_or l 5 0) bit6 in
    rw (get_or-set_same l 5 byte 0 h, or_again bit6 (get_or l 5 0), set-set l 5 byte byte)

-- ---- the registers left
module _ (six regs : List ℕ) (size : length regs ≡ 256) (some : length six ≤ 6) where
  part : (n : ℕ) → 6 + length (take n six) ≤ length regs
  part n = omega (arith, length-take n six)

  length_new : (n : ℕ) → length (first_new n six regs) ≡ 256
  length_new n = length_put regs 6 (take n six) (part n) ∙ size

  pub length_left : (on : Bool) (n : ℕ) → length (regs_left on n six regs) ≡ 256
  length_left true n = length-set (first_new n six regs) 5 _ ∙ length_new n
  length_left false n = length_new n

  -- above 0B all is as it was
  new_above : (n i : ℕ) → 12 ≤ i → get_or (first_new n six regs) i 0 ≡ get_or regs i 0
  new_above n i h = old_above regs 6 (take n six) (part n) i (omega (arith, length-take n six))

  pub left_above : (on : Bool) (n i : ℕ) → 12 ≤ i → get_or (regs_left on n six regs) i 0 ≡ get_or regs i 0
  left_above true n i h = get_or-set_other (first_new n six regs) 5 i _ 0 (λ e. omega arith) ∙ new_above n i h
  left_above false n i h = new_above n i h

  -- a first part of the six over what is left
  pub left_more : (on : Bool) (n k : ℕ) → (on ≡ true → n ≡ 6) → n ≤ length six → k ≤ length six
      → put (regs_left on n six regs) 6 (take k six) ≡ regs_left on (max n k) six regs
  left_more false n k last few most = put_parts regs six 6 n k few most (omega arith)
  left_more true n k last few most =
      let all : max n k ≡ n = omega (arith, last refl) in
      let same = put_parts regs six 6 n k few most (omega arith) ∙ ap (λ (j : ℕ). first_new j six regs) all in
      put_set (first_new n six regs) (take k six) 6 5 _ (omega arith) (omega (arith, length_new n, length-take k six))
      ∙ ap (λ (u : List ℕ). set u 5 (bit_or (get_or (first_new n six regs) 5 0) bit6)) same
      ∙ ap (λ (j : ℕ). counted (first_new j six regs)) (sym all)

  -- six bytes over what is left, and then 05
  pub left_over : (on : Bool) (n : ℕ) (v : List ℕ) → length v ≡ 6
      → counted (put (regs_left on n six regs) 6 v) ≡ counted (put regs 6 v)
  left_over false n v all = ap counted (put_over regs 6 (take n six) (part n) v (omega (arith, length-take n six)))
  left_over true n v all =
      let room : 6 + length v ≤ length regs = omega arith in
      let low = old_below regs 6 (take n six) (part n) 5 (omega arith) in
      let same = put_over regs 6 (take n six) (part n) v (omega (arith, length-take n six)) in
      let size = length_put regs 6 v room in
      let set5 : ℕ → List ℕ = λ x. set (put regs 6 v) 5 x in
      ap counted
      (put_set (first_new n six regs) v 6 5 _ (omega arith) (omega (arith, length_new n))
      ∙ ap (λ (u : List ℕ). set u 5 (bit_or (get_or (first_new n six regs) 5 0) bit6)) same
      ∙ ap (λ (x : ℕ). set5 (bit_or x bit6)) (low ∙ sym (old_below regs 6 v room 5 (omega arith))))
      ∙ counted_again (put regs 6 v) (omega arith)

  pub left_counted : (on : Bool) (n : ℕ) → counted (regs_left on n six regs) ≡ regs_left true n six regs
  left_counted false n = refl
  left_counted true n = counted_again (first_new n six regs) (omega (arith, length_new n))
