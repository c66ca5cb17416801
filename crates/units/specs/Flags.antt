-- The status register's flags, by their bits: 7 CC_READY, 5 DEVICE_XREADY, 4 OVRD_ALERT, 3 UV, 2 OV, 1 SCD, 0 OCD. Bit 6 is reserved.
-- Assumes nothing.
use Rattle.std.specs.Prelude.{ℕ, ◌+◌, ◌/◌, ◌%◌, ◌^◌, Bool, not, ◌||◌, eqb}

-- bit k of a register's byte, counted from 0 at the low end
abbrev pub bit : ℕ → ℕ → Bool
bit k byte = eqb (byte / 2 ^ k % 2) 1

-- the seven flags together
abbrev pub all_flags : ℕ
all_flags = 2 ^ 7 + 2 ^ 5 + 2 ^ 4 + 2 ^ 3 + 2 ^ 2 + 2 ^ 1 + 2 ^ 0

-- no fault stands: CC_READY may, and so may the reserved bit
abbrev pub is_ok : ℕ → Bool
is_ok byte = not (bit 5 byte || bit 4 byte || bit 3 byte || bit 2 byte || bit 1 byte || bit 0 byte)
