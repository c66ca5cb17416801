-- The errors of transmission that the check byte is for: which bits of the message and its check byte, taken as one number, arrive wrong.
use Rattle.std.specs.Prelude.{ℕ, ◌*◌, ◌^◌, ◌<◌}
use Rattle.std.specs.Int.Bits.{bit_xor}

pub data Error : ℕ → Type 0 where
  -- up to eight bits in a row, of which any may be wrong; so one bit too
  burst : (b i : ℕ) → 0 < b → b < 2 ^ 8 → Error (b * 2 ^ i)
  -- two bits, however far apart
  two : (i j : ℕ) → i < j → Error (bit_xor (2 ^ i) (2 ^ j))
