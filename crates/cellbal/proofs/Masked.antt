-- The code's test by one mask is the rule about neighbours, on every set: a block of five is 32 numbers, and what the mask does to one block it
-- does to the next.
-- Assumes nothing.
use mathlib.Core.Path.{◌≡◌, refl, sym, ap, ap₂, ◌∙◌}
use mathlib.Core.Bool.{Bool, false, not, ◌&&◌, ◌||◌}
use mathlib.Core.List.{List, [], ◌∷◌}
use Prim.Native.Nat.{ℕ, zero, suc, ◌+◌, ◌*◌, ◌/◌, ◌%◌, ◌^◌, ◌<◌}
use native.Mathlib.Nat.{mod-lt}
use native.Mathlib.Omega.{arith}
use lib.Bits.{bit_and, and_block, and_mask, and_mod, and_shr, and_zero_r}
use lib.Dec.{T, eqb}
use lib.Pow.{split, shr-shr}
use borrow.Author.Tests.{ne_eqb}
use Rattle.laws.proofs.Tests.{all_below, below, agree, agreeing}
use Rattle.units.specs.Flags.{bit}
use Rattle.cellbal.specs.Rules.{together, neighbours}
use Rattle.cellbal.proofs.Digits.{bit_above, bit_below}

-- ---- one block, the first
abbrev five : List ℕ
five = 1 ∷ 2 ∷ 3 ∷ 4 ∷ 5 ∷ []

-- some bit of the mask is set, of a number beside itself
abbrev marked : ℕ → ℕ → Bool
marked mask n = not (eqb (bit_and (bit_and n (n / 2)) mask) 0)

abbrev low : ℕ → Bool
low n = not (eqb (bit_and (n % 16) (n / 2)) 0)

each_block : T (all_below 32 (λ n. agree (low n) (together n five)))
each_block = tt

-- by the low five bits alone
low_five : (n : ℕ) → together (n % 32) five ≡ together n five
low_five n =
    let a : n % 32 / 1 % 2 ≡ n / 1 % 2 = bit_below 4 0 n in
    let b : n % 32 / 2 % 2 ≡ n / 2 % 2 = bit_below 3 1 n in
    let c : n % 32 / 4 % 2 ≡ n / 4 % 2 = bit_below 2 2 n in
    let d : n % 32 / 8 % 2 ≡ n / 8 % 2 = bit_below 1 3 n in
    let e : n % 32 / 16 % 2 ≡ n / 16 % 2 = bit_below 0 4 n in
    rw (a, b, c, d, e)

first_block : (n : ℕ) → marked 15 n ≡ together n five
first_block n =
    let low-four : n % 16 ≡ n % 32 % 16 = omega arith in
    let above : n / 2 % 16 ≡ n % 32 / 2 = omega arith in
    ap (λ (m : ℕ). not (eqb m 0)) (and_mask (bit_and n (n / 2)) 4 ∙ and_mod n (n / 2) 4 ∙ ap₂ bit_and low-four above)
    ∙ agreeing (low (n % 32)) (together (n % 32) five)
    (below 32 (λ n. agree (low n) (together n five)) each_block (n % 32) (mod-lt n (omega arith)))
    ∙ low_five n

-- ---- a block and those above it
some_part : (a b : ℕ) → not (eqb (a * 32 + b) 0) ≡ not (eqb b 0) || not (eqb a 0)
some_part zero zero = refl
some_part (suc a) zero = rw (ne_eqb (suc a * 32 + 0) 0 (λ z. omega arith), ne_eqb (suc a) 0 (λ z. omega arith))
some_part a (suc b) = rw (ne_eqb (a * 32 + suc b) 0 (λ z. omega arith), ne_eqb (suc b) 0 (λ z. omega arith))

next_block : (mask n : ℕ) → marked (mask * 32 + 15) n ≡ together n five || marked mask (n / 32)
next_block mask n =
    let z = bit_and n (n / 2) in
    let turned : n / 2 / 32 ≡ n / 32 / 2 = omega arith in
    let few : 15 < 32 = omega arith in
    let same : z % 32 % 16 ≡ z % 16 = omega arith in
    let here : bit_and (z % 32) 15 ≡ bit_and z 15 = and_mask (z % 32) 4 ∙ same ∙ sym (and_mask z 4) in
    let there : z / 32 ≡ bit_and (n / 32) (n / 32 / 2) = and_shr n (n / 2) 5 ∙ ap (bit_and (n / 32)) turned in
    ap (λ (m : ℕ). not (eqb m 0))
    (ap (λ (m : ℕ). bit_and m (mask * 32 + 15)) (sym (split z 5))
    ∙ and_block 5 (z / 32) mask (z % 32) 15 (mod-lt z (omega arith)) few
    ∙ ap₂ (λ (a b : ℕ). bit_and a mask * 32 + b) there here)
    ∙ some_part (bit_and (bit_and (n / 32) (n / 32 / 2)) mask) (bit_and z 15)
    ∙ ap (λ (t : Bool). t || marked mask (n / 32)) (first_block n)

none_marked : (n : ℕ) → marked 0 n ≡ false
none_marked n = ap (λ (m : ℕ). not (eqb m 0)) (and_zero_r (bit_and n (n / 2)))

-- ---- so the rule, whose upper blocks are those of quotients
abbrev pairs : Bool → Bool → Bool → Bool → Bool → Bool
pairs a b c d e = a && b || (b && c || (c && d || (d && e || false)))

block_above : (k n : ℕ) → pairs (bit (k + 0) n) (bit (k + 1) n) (bit (k + 2) n) (bit (k + 3) n) (bit (k + 4) n) ≡ together (n / 2 ^ k) five
block_above k n =
    rw (sym (bit_above k 0 n), sym (bit_above k 1 n), sym (bit_above k 2 n), sym (bit_above k 3 n), sym (bit_above k 4 n))

pub by_mask : (set : ℕ) → marked 0b01111_01111_01111 set ≡ neighbours set
unfolding neighbours
by_mask set =
    let third : set / 32 / 32 ≡ set / 1024 = shr-shr set 5 5 in
    next_block 495 set
    ∙ ap (λ (t : Bool). together set five || t)
    (next_block 15 (set / 32)
    ∙ ap₂ (λ (t u : Bool). t || u) (sym (block_above 5 set))
    (next_block 0 (set / 32 / 32)
    ∙ ap₂ (λ (t u : Bool). t || u)
    (ap (λ (n : ℕ). together n five) third ∙ sym (block_above 10 set)) (none_marked (set / 32 / 32 / 32))))
