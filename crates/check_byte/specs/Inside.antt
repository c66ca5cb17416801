-- What private contracts cite: what the code does in place of times x^8. Nobody has to believe it.
-- Assumes nothing.
use Rattle.std.specs.Prelude.{ℕ, ◌*◌}
use Rattle.std.specs.Int.Bits.{bit_xor}

-- n times x^2 + x + 1, the bits 111
unfoldable pub times_seven : ℕ → ℕ
times_seven n = bit_xor (bit_xor n (n * 2)) (n * 4)
