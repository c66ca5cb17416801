-- Laws of the long division: it goes through an exclusive or, it takes no account of zeros before the number, to divide on is
-- to divide what is left, a multiple of the divisor is taken away, and what is left is below x^8.
-- Assumes nothing.
use mathlib.Core.Path.{◌≡◌, refl, sym, ap, ap₂, ◌∙◌, subst}
use Prim.Native.Nat.{ℕ, zero, suc, ◌+◌, ◌*◌, ◌/◌, ◌%◌, ◌^◌, ◌<◌}
use native.Mathlib.Nat.{zero-lt-suc, zero-add, add-zero, suc-add, zero-mul, one-mul, mul-one, mul_assoc, pow-suc}
use native.Mathlib.Nat.{mul-mod_left, mod-lt, mod-eq_of_lt, div-eq_of_lt, div-lt_iff_lt-mul, lt_of_lt_of_le}
use native.Mathlib.Omega.{arith}
use native.Mathlib.Numerals.{one-add}
use lib.Pow.{pow_pos, pow-add, pow_mono, shl-shr, shr_lt, shr-shr}
use lib.Bits.{bit_xor, xor_shr, xor_mod, xor_zero_r, xor_self}
use Rattle.check_byte.specs.CheckByte.{divisor, coefficient, line, divide}
use Rattle.check_byte.proofs.Xor.{by_bit, xor_zero, xor_swap, xor_shift, bit_times}

pub bit : (n k : ℕ) → coefficient n k < 2
unfolding coefficient
bit n k = mod-lt (n / 2 ^ k) (zero-lt-suc 1)

pub top : (k n : ℕ) → n < 2 ^ suc k → n / 2 ^ k < 2
top k n h = shr_lt 1 k (rw one-add h)

-- ---- through an exclusive or

coefficient_xor : (a b k : ℕ) → coefficient (bit_xor a b) k ≡ bit_xor (coefficient a k) (coefficient b k)
unfolding coefficient
coefficient_xor a b k = ap (λ (x : ℕ). x % 2) (xor_shr a b k) ∙ xor_mod (a / 2 ^ k) (b / 2 ^ k) 1

pub line_xor : (k a b : ℕ) → line k (bit_xor a b) ≡ bit_xor (line k a) (line k b)
unfolding line
line_xor k a b =
    let d = divisor * 2 ^ k in
    ap (λ (x : ℕ). bit_xor (bit_xor a b) (x * d)) (coefficient_xor a b (k + 8))
    ∙ ap (bit_xor (bit_xor a b)) (bit_times (coefficient a (k + 8)) (coefficient b (k + 8)) d (bit a (k + 8)) (bit b (k + 8)))
    ∙ xor_swap a b (coefficient a (k + 8) * d) (coefficient b (k + 8) * d)

pub divide_xor : (k a b : ℕ) → divide k (bit_xor a b) ≡ bit_xor (divide k a) (divide k b)
unfolding divide
divide_xor zero a b = refl
divide_xor (suc k) a b = ap (divide k) (line_xor k a b) ∙ divide_xor k (line k a) (line k b)

-- ---- zeros before the number

pub line_small : (k n : ℕ) → n < 2 ^ (k + 8) → line k n ≡ n
unfolding line coefficient
line_small k n h =
    ap (λ (x : ℕ). bit_xor n (x % 2 * (divisor * 2 ^ k))) (div-eq_of_lt h)
    ∙ ap (bit_xor n) (zero-mul (divisor * 2 ^ k))
    ∙ xor_zero_r n

pub divide_small : (j k n : ℕ) → n < 2 ^ (k + 8) → divide (j + k) n ≡ divide k n
unfolding divide
divide_small zero k n h = ap (λ (x : ℕ). divide x n) (zero-add k)
divide_small (suc j) k n h =
    ap (λ (x : ℕ). divide x n) (suc-add j k)
    ∙ ap (divide (j + k)) (line_small (j + k) n (lt_of_lt_of_le h (pow_mono (omega arith))))
    ∙ divide_small j k n h

pub divide_byte : (k n : ℕ) → n < 2 ^ 8 → divide k n ≡ n
unfolding divide
divide_byte k n h = ap (λ (x : ℕ). divide x n) (sym (add-zero k)) ∙ divide_small k 0 n h

-- ---- dividing on

coefficient_shift : (n j k : ℕ) → coefficient (n * 2 ^ j) (j + k) ≡ coefficient n k
unfolding coefficient
coefficient_shift n j k = ap (λ (x : ℕ). x % 2) (sym (shr-shr (n * 2 ^ j) j k) ∙ ap (λ (x : ℕ). x / 2 ^ k) (shl-shr n j))

line_shift : (k j n : ℕ) → line (k + j) (n * 2 ^ j) ≡ line k n * 2 ^ j
unfolding line
line_shift k j n =
    ap₂ (λ (x y : ℕ). bit_xor (n * 2 ^ j) (x * (divisor * y)))
    (ap (coefficient (n * 2 ^ j)) (omega arith) ∙ coefficient_shift n j (k + 8))
    (pow-add 2 k j)
    ∙ ap (bit_xor (n * 2 ^ j))
    (ap (λ (x : ℕ). coefficient n (k + 8) * x) (sym (mul_assoc divisor (2 ^ k) (2 ^ j)))
    ∙ sym (mul_assoc (coefficient n (k + 8)) (divisor * 2 ^ k) (2 ^ j)))
    ∙ xor_shift j n (coefficient n (k + 8) * (divisor * 2 ^ k))

pub divide_on : (k j n : ℕ) → divide (k + j) (n * 2 ^ j) ≡ divide j (divide k n * 2 ^ j)
unfolding divide
divide_on zero j n = ap (λ (x : ℕ). divide x (n * 2 ^ j)) (zero-add j)
divide_on (suc k) j n =
    ap (λ (x : ℕ). divide x (n * 2 ^ j)) (suc-add k j)
    ∙ ap (divide (k + j)) (line_shift k j n)
    ∙ divide_on k j (line k n)

-- the divisor ends in 1, and twice a number does not
even : (r c : ℕ) → c < 2 → r * 2 ≡ c * divisor → r ≡ 0
unfolding divisor
even r =
    by_bit (λ (c : ℕ). r * 2 ≡ c * divisor → r ≡ 0) (λ e. omega arith)
    (λ e. absurd (omega (arith, sym (mul-mod_left r 2) ∙ ap (λ (x : ℕ). x % 2) e)))

double : (r : ℕ) → divide 1 (r * 2) ≡ 0 → r ≡ 0
unfolding divide line
double r e =
    let c = coefficient (r * 2) 8 in
    even r c (bit (r * 2) 8) (xor_zero (r * 2) (c * (divisor * 1)) e ∙ ap (◌*◌ c) (mul-one divisor))

-- where nothing is left of n times x^j, nothing is left of n
pub cancel : (j k n : ℕ) → divide (k + j) (n * 2 ^ j) ≡ 0 → divide k n ≡ 0
cancel zero k n e = ap₂ divide (sym (add-zero k)) (sym (mul-one n)) ∙ e
cancel (suc j) k n e =
    cancel j k n
    (double (divide (k + j) (n * 2 ^ j))
    (sym (divide_on (k + j) 1 (n * 2 ^ j))
    ∙ ap₂ divide (omega arith) (mul_assoc n (2 ^ j) 2 ∙ ap (◌*◌ n) (sym (pow-suc 2 j)))
    ∙ e))

-- ---- a multiple of the divisor

high_bit : (c : ℕ) → c < 2 → c * divisor / 2 ^ 8 ≡ c
unfolding divisor
high_bit = by_bit (λ (c : ℕ). c * divisor / 2 ^ 8 ≡ c) refl refl

high_place : (c k : ℕ) → c < 2 → c * (divisor * 2 ^ k) / 2 ^ (k + 8) ≡ c
high_place c k h =
    ap (λ (x : ℕ). x / 2 ^ (k + 8)) (sym (mul_assoc c divisor (2 ^ k)))
    ∙ sym (shr-shr (c * divisor * 2 ^ k) k 8)
    ∙ ap (λ (x : ℕ). x / 2 ^ 8) (shl-shr (c * divisor) k)
    ∙ high_bit c h

-- the line at k takes the divisor times x^k away
pub line_multiple : (c k : ℕ) → c < 2 → line k (c * (divisor * 2 ^ k)) ≡ 0
unfolding line coefficient
line_multiple c k h =
    ap (λ (x : ℕ). bit_xor (c * (divisor * 2 ^ k)) (x * (divisor * 2 ^ k))) (ap (λ (x : ℕ). x % 2) (high_place c k h) ∙ mod-eq_of_lt h)
    ∙ xor_self (c * (divisor * 2 ^ k))

-- ---- what is left is below x^8

line_high : (k n : ℕ) → n < 2 ^ suc (k + 8) → line k n / 2 ^ (k + 8) ≡ 0
unfolding line coefficient
line_high k n h =
    xor_shr n (coefficient n (k + 8) * (divisor * 2 ^ k)) (k + 8)
    ∙ ap₂ bit_xor (sym (mod-eq_of_lt (top (k + 8) n h))) (high_place (coefficient n (k + 8)) k (bit n (k + 8)))
    ∙ xor_self (coefficient n (k + 8))

line_lt : (k n : ℕ) → n < 2 ^ suc (k + 8) → line k n < 2 ^ (k + 8)
line_lt k n h =
    subst (λ (m : ℕ). line k n < m) (one-mul (2 ^ (k + 8)))
    ((div-lt_iff_lt-mul (pow_pos (k + 8))).0 (subst (λ (m : ℕ). m < 1) (sym (line_high k n h)) (omega arith)))

pub divide_lt : (k n : ℕ) → n < 2 ^ (k + 8) → divide k n < 2 ^ 8
unfolding divide
divide_lt zero n h = h
divide_lt (suc k) n h = divide_lt k (line k n) (line_lt k n (rw suc-add at h))
