-- What a remainder by x^8 + x^2 + x + 1 is, whichever way it is found.
use Rattle.std.specs.Prelude.{ℕ, ◌*◌, ◌^◌, ◌<◌, ◌≡◌}
use Rattle.std.specs.Int.Bits.{bit_xor}

-- q times x^8 + x^2 + x + 1
unfoldable pub times_divisor : ℕ → ℕ
times_divisor q = bit_xor (q * 2 ^ 8) (bit_xor (bit_xor q (q * 2)) (q * 4))

-- n is some multiple of the divisor and r, and r has no x^8 or higher
pub record Remainder (n r : ℕ) : Type 0 where
  pub quotient : ℕ
  pub sum : n ≡ bit_xor (times_divisor quotient) r
  pub small : r < 2 ^ 8
