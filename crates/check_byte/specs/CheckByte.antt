-- The check byte, as the datasheet has it: the remainder of the message times x^8, divided by x^8 + x^2 + x + 1.
-- A polynomial over bits is a number whose bit k is the coefficient of x^k. To add two and to subtract one from the other is the exclusive or,
-- since there is no carry; times x^k is times 2 ^ k. The division is the one done by hand; that it finds the
-- remainder, and that there is only one, is proofs/Division.antt.
use Rattle.std.specs.Prelude.{List, [], ◌∷◌, ℕ, zero, suc, ◌+◌, ◌*◌, ◌/◌, ◌%◌, ◌^◌, ◌<◌, length}
use Rattle.std.specs.Int.Bits.{bit_xor}

-- x^8 + x^2 + x + 1
unfoldable pub divisor : ℕ
divisor = 0x107

-- the coefficient of x^k
unfoldable pub coefficient : ℕ → ℕ → ℕ
coefficient n k = n / 2 ^ k % 2

-- one line of the long division: where n has x^(k + 8), the divisor times x^k is taken away
unfoldable pub line : ℕ → ℕ → ℕ
line k n = bit_xor n (coefficient n (k + 8) * (divisor * 2 ^ k))

-- the long division, a line for each of the quotient's k coefficients, from the highest down: what is left is the remainder
unfoldable pub divide : ℕ → ℕ → ℕ
divide zero n = n
divide (suc k) n = divide k (line k n)

-- the bits of a message, as one number: the first byte is the highest, with eight bits for each byte after it
unfoldable pub number : List ℕ → ℕ
number [] = 0
number (b ∷ m) = b * 2 ^ (8 * length m) + number m

-- the message times x^8, a line for each bit of the message
unfoldable pub check_byte : List ℕ → ℕ
check_byte m = divide (8 * length m) (number m * 2 ^ 8)

-- a message is of bytes
abbrev pub Bytes : List ℕ → Type 0
Bytes [] = Unit
Bytes (b ∷ m) = (b < 2 ^ 8) × Bytes m
