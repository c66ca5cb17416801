-- CELLBAL1 to CELLBAL3, registers 01 to 03: five inputs each, the lowest in bit 0. Bits 7 to 5 are reserved, and 0.
-- Assumes nothing.
use Rattle.std.specs.Prelude.{ℕ, ◌+◌, ◌*◌, ◌/◌, ◌%◌, List, [], ◌∷◌, take}

-- a device of x inputs has one for each five
abbrev pub register_count : ℕ → ℕ
register_count x = x / 5

-- a set as the bytes of all three
abbrev pub three_for : ℕ → List ℕ
three_for set = set % 32 ∷ set / 32 % 32 ∷ set / 1024 % 32 ∷ []

-- and of those that the device has
unfoldable pub registers_for : ℕ → ℕ → List ℕ
registers_for x set = take (register_count x) (three_for set)

-- the set that bytes read from 01 on show, by five bits of each
unfoldable pub set_of : List ℕ → ℕ
set_of [] = 0
set_of (byte ∷ bytes) = byte % 32 + 32 * set_of bytes
