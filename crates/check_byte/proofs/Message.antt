-- The check byte of a message and one byte more: the division goes on from the remainder so far (`further`). And the check byte of bytes is
-- a byte (`bound`).
-- Assumes nothing.
use mathlib.Core.Path.{◌≡◌, sym, ap, ap₂, ◌∙◌, subst}
use mathlib.Core.List.{List, [], ◌∷◌, ◌++◌}
use Prim.Native.Nat.{ℕ, suc, ◌+◌, ◌*◌, ◌^◌, ◌<◌}
use native.Mathlib.Nat.{add-zero, mul_assoc, mul-one}
use native.Mathlib.Omega.{arith}
use lib.Arith.{digits_lt}
use lib.ListN.{length, get_or, length-append}
use lib.Pow.{pow-add, shl_lt}
use lib.Bits.{bit_xor, xor_self, xor_shifted}
use Rattle.check_byte.specs.CheckByte.{divide, number, check_byte, Bytes}
use Rattle.check_byte.proofs.LongDivision.{divide_xor, divide_byte, divide_on, divide_lt}

-- eight bits for one byte more
bits_more : (m : List ℕ) (b : ℕ) → 8 * length (m ++ b ∷ []) ≡ 8 * length m + 8
bits_more m b = omega (arith, length-append m (b ∷ []))

number_more : (m : List ℕ) (b : ℕ) → number (m ++ b ∷ []) ≡ number m * 2 ^ 8 + b
unfolding number
number_more [] b = omega arith
number_more (a ∷ m) b =
    ap₂ (λ (x y : ℕ). a * x + y) (ap (◌^◌ 2) (bits_more m b) ∙ pow-add 2 (8 * length m) 8) (number_more m b)
    ∙ omega (arith, mul_assoc a (2 ^ (8 * length m)) (2 ^ 8))

-- the whole word, a message and a byte for its check byte, leaves how that byte differs from the check byte
word : (m : List ℕ) (b : ℕ) → b < 2 ^ 8 → divide (8 * length m) (number m * 2 ^ 8 + b) ≡ bit_xor (check_byte m) b
unfolding check_byte
word m b h =
    let k = 8 * length m in
    ap (divide k) (sym (xor_shifted (number m) 8 b h))
    ∙ divide_xor k (number m * 2 ^ 8) b
    ∙ ap (bit_xor (check_byte m)) (divide_byte k b h)

-- so nothing is left of a word whose check byte is right
pub matched : (m : List ℕ) (b : ℕ) → b < 2 ^ 8 → check_byte m ≡ b → divide (8 * length m) (number (m ++ b ∷ [])) ≡ 0
matched m b h e = ap (divide (8 * length m)) (number_more m b) ∙ word m b h ∙ ap (λ (x : ℕ). bit_xor x b) e ∙ xor_self b

pub single : (b : ℕ) → check_byte (b ∷ []) ≡ divide 8 (b * 2 ^ 8)
unfolding check_byte number
single b = ap (λ (x : ℕ). divide 8 (x * 2 ^ 8)) (add-zero (b * 1) ∙ mul-one b)

pub further : (m : List ℕ) (b : ℕ) → b < 2 ^ 8 → check_byte (m ++ b ∷ []) ≡ check_byte (bit_xor (check_byte m) b ∷ [])
unfolding check_byte
further m b h =
    ap₂ (λ (k n : ℕ). divide k (n * 2 ^ 8)) (bits_more m b) (number_more m b)
    ∙ divide_on (8 * length m) 8 (number m * 2 ^ 8 + b)
    ∙ ap (λ (x : ℕ). divide 8 (x * 2 ^ 8)) (word m b h)
    ∙ sym (single (bit_xor (check_byte m) b))

-- ---- bytes in, a byte out

pub number_lt : (m : List ℕ) → Bytes m → number m < 2 ^ (8 * length m)
unfolding number
number_lt [] h = omega arith
number_lt (b ∷ m) h =
    subst (λ (n : ℕ). number (b ∷ m) < n) (sym (pow-add 2 8 (8 * length m)) ∙ ap (◌^◌ 2) (omega arith))
    (digits_lt h.0 (number_lt m h.1))

pub word_lt : (m : List ℕ) (b : ℕ) → Bytes m → b < 2 ^ 8 → number (m ++ b ∷ []) < 2 ^ (8 * length m + 8)
word_lt m b h l = rw (number_more, pow-add 2 (8 * length m) 8) (digits_lt (number_lt m h) l)

pub bound : (m : List ℕ) → Bytes m → check_byte m < 2 ^ 8
unfolding check_byte
bound m h = divide_lt (8 * length m) (number m * 2 ^ 8) (shl_lt (8 * length m) 8 (number_lt m h))

-- a slice's elements are bytes
pub bytes : (m : List ℕ) → ((i : ℕ) → get_or m i 0 < 2 ^ 8) → Bytes m
bytes [] h = tt
bytes (b ∷ m) h = (h 0, bytes m (λ i. h (suc i)))
