-- The product of a number and the divisor, x^8 + x^2 + x + 1: the long division leaves nothing of it. So a number times x^8 leaves what it
-- leaves times x^2 + x + 1.
-- Assumes nothing.
use mathlib.Core.Path.{◌≡◌, refl, sym, ap, ap₂, ◌∙◌}
use Prim.Native.Nat.{ℕ, zero, suc, ◌+◌, ◌*◌, ◌/◌, ◌%◌, ◌^◌, ◌<◌}
use native.Mathlib.Nat.{zero-mul, mul_assoc, mul_right_comm, pow-succ', mod-lt, lt_of_lt_of_le}
use native.Mathlib.Omega.{arith}
use lib.Arith.{lt-one, digits_lt}
use lib.Pow.{pow_pos, pow_mono, shl_lt, split}
use lib.Bits.{bit_xor, xor_lt, xor_comm, xor_shifted}
use Rattle.check_byte.specs.CheckByte.{divisor, coefficient, line, divide}
use Rattle.check_byte.specs.Inside.{times_seven}
use Rattle.check_byte.specs.Division.{times_divisor}
use Rattle.check_byte.proofs.Xor.{by_bit, xor_assoc, xor_swap, xor_shift, xor_undo}
use Rattle.check_byte.proofs.LongDivision.{bit, top, line_xor, line_small, line_multiple, divide_xor}

-- ---- through an exclusive or

seven_xor : (a b : ℕ) → times_seven (bit_xor a b) ≡ bit_xor (times_seven a) (times_seven b)
unfolding times_seven
seven_xor a b =
    ap₂ (λ (x y : ℕ). bit_xor (bit_xor (bit_xor a b) x) y) (sym (xor_shift 1 a b)) (sym (xor_shift 2 a b))
    ∙ ap (λ (x : ℕ). bit_xor x (bit_xor (a * 4) (b * 4))) (xor_swap a b (a * 2) (b * 2))
    ∙ xor_swap (bit_xor a (a * 2)) (bit_xor b (b * 2)) (a * 4) (b * 4)

times_xor : (a b : ℕ) → times_divisor (bit_xor a b) ≡ bit_xor (times_divisor a) (times_divisor b)
unfolding times_divisor times_seven
times_xor a b =
    ap₂ bit_xor (sym (xor_shift 8 a b)) (seven_xor a b)
    ∙ xor_swap (a * 2 ^ 8) (b * 2 ^ 8) (times_seven a) (times_seven b)

-- ---- through a shift

seven_shift : (n k : ℕ) → times_seven (n * 2 ^ k) ≡ times_seven n * 2 ^ k
unfolding times_seven
seven_shift n k =
    ap₂ (λ (x y : ℕ). bit_xor (bit_xor (n * 2 ^ k) x) y) (mul_right_comm n (2 ^ k) 2) (mul_right_comm n (2 ^ k) 4)
    ∙ ap (λ (x : ℕ). bit_xor x (n * 4 * 2 ^ k)) (xor_shift k n (n * 2))
    ∙ xor_shift k (bit_xor n (n * 2)) (n * 4)

times_shift : (n k : ℕ) → times_divisor (n * 2 ^ k) ≡ times_divisor n * 2 ^ k
unfolding times_divisor times_seven
times_shift n k =
    ap₂ bit_xor (mul_right_comm n (2 ^ k) (2 ^ 8)) (seven_shift n k)
    ∙ xor_shift k (n * 2 ^ 8) (times_seven n)

-- ---- bounds

pub seven_lt : (k n : ℕ) → n < 2 ^ k → times_seven n < 2 ^ (k + 2)
unfolding times_seven
seven_lt k n h =
    xor_lt (k + 2) (bit_xor n (n * 2)) (n * 4)
    (xor_lt (k + 2) n (n * 2) (lt_of_lt_of_le h (pow_mono (omega arith))) (lt_of_lt_of_le (shl_lt k 1 h) (pow_mono (omega arith))))
    (shl_lt k 2 h)

times_lt : (k n : ℕ) → n < 2 ^ k → times_divisor n < 2 ^ (k + 8)
unfolding times_divisor times_seven
times_lt k n h =
    xor_lt (k + 8) (n * 2 ^ 8) (times_seven n) (shl_lt k 8 h) (lt_of_lt_of_le (seven_lt k n h) (pow_mono (omega arith)))

-- ---- the product leaves nothing

times_bit : (c : ℕ) → c < 2 → times_divisor c ≡ c * divisor
unfolding times_divisor times_seven divisor
times_bit = by_bit (λ (c : ℕ). times_divisor c ≡ c * divisor) refl refl

-- what the line at k takes away
times_place : (c k : ℕ) → c < 2 → times_divisor (c * 2 ^ k) ≡ c * (divisor * 2 ^ k)
times_place c k h = times_shift c k ∙ ap (λ (x : ℕ). x * 2 ^ k) (times_bit c h) ∙ mul_assoc c divisor (2 ^ k)

-- the highest coefficient by itself
pub times_top : (c k n : ℕ) → c < 2 → n < 2 ^ k → times_divisor (c * 2 ^ k + n) ≡ bit_xor (c * (divisor * 2 ^ k)) (times_divisor n)
times_top c k n h l =
    ap times_divisor (sym (xor_shifted c k n l))
    ∙ times_xor (c * 2 ^ k) n
    ∙ ap (λ (x : ℕ). bit_xor x (times_divisor n)) (times_place c k h)

-- the lines take it away, one coefficient after the other
pub exact : (k n : ℕ) → n < 2 ^ k → divide k (times_divisor n) ≡ 0
unfolding divide
exact zero n h = ap times_divisor (lt-one h) ∙ times_bit 0 (omega arith) ∙ zero-mul divisor
exact (suc k) n h =
    let c = n / 2 ^ k in
    let r = n % 2 ^ k in
    let hc : c < 2 = top k n h in
    let hr : r < 2 ^ k = mod-lt n (pow_pos k) in
    ap (λ (x : ℕ). divide k (line k x)) (ap times_divisor (sym (split n k)) ∙ times_top c k r hc hr)
    ∙ ap (divide k)
    (line_xor k (c * (divisor * 2 ^ k)) (times_divisor r)
    ∙ ap₂ bit_xor (line_multiple c k hc) (line_small k (times_divisor r) (times_lt k r hr)))
    ∙ exact k r hr

-- times x^8 and times x^2 + x + 1 differ by the product
pub fold : (k n : ℕ) → n < 2 ^ k → divide k (n * 2 ^ 8) ≡ divide k (times_seven n)
unfolding times_divisor times_seven
fold k n h =
    ap (divide k) (sym (xor_undo (n * 2 ^ 8) (times_seven n)))
    ∙ divide_xor k (times_divisor n) (times_seven n)
    ∙ ap (λ (x : ℕ). bit_xor x (divide k (times_seven n))) (exact k n h)

-- ---- the quotient: with it, the product and what is left are the number

unfoldable pub quotient : ℕ → ℕ → ℕ
quotient zero n = 0
quotient (suc k) n = coefficient n (k + 8) * 2 ^ k + quotient k (line k n)

quotient_lt : (k n : ℕ) → quotient k n < 2 ^ k
unfolding quotient
quotient_lt zero n = omega arith
quotient_lt (suc k) n = rw pow-succ' (digits_lt (bit n (k + 8)) (quotient_lt k (line k n)))

pub divided : (k n : ℕ) → n ≡ bit_xor (times_divisor (quotient k n)) (divide k n)
unfolding divide line quotient
divided zero n = ap (λ (x : ℕ). bit_xor x n) (sym (exact 0 0 (omega arith)))
divided (suc k) n =
    let x = coefficient n (k + 8) * (divisor * 2 ^ k) in
    let q = quotient k (line k n) in
    sym (xor_undo n x)
    ∙ xor_comm (line k n) x
    ∙ ap (bit_xor x) (divided k (line k n))
    ∙ sym (xor_assoc x (times_divisor q) (divide k (line k n)))
    ∙ ap (λ (y : ℕ). bit_xor y (divide k (line k n))) (sym (times_top (coefficient n (k + 8)) k q (bit n (k + 8)) (quotient_lt k (line k n))))
