-- The bits of a register's byte, by a mask: tested, and changed.
-- Assumes nothing.
use Rattle.std.specs.Prelude.{ℕ, ◌-◌, Bool, not, eqb}
use Rattle.std.specs.Bool.{beq}
use Rattle.std.proofs.Math.Option.{Option, none, some}
use Rattle.std.specs.Int.Bits.{bit_and, bit_or}
use Rattle.laws.specs.Choice.{when◌then◌else◌}

-- one of them is set
abbrev pub holds : ℕ → ℕ → Bool
holds mask byte = not (eqb (bit_and byte mask) 0)

-- the byte without them
abbrev pub cleared : ℕ → ℕ → ℕ
cleared mask byte = bit_and byte (255 - mask)

-- all of them, or none
abbrev pub placed : ℕ → Bool → ℕ
placed mask on = when on then mask else 0

-- the byte with all of them, or without
abbrev pub switched : ℕ → Bool → ℕ → ℕ
switched mask on byte = when on then bit_or byte mask else cleared mask byte

-- the bit is as asked already
abbrev pub stands : ℕ → Bool → ℕ → Bool
stands mask on byte = beq on (holds mask byte)

-- ---- what is to be written for a byte that was read, if anything
unfoldable pub putting : ℕ → ℕ → ℕ → Option ℕ
putting mask bits byte = some (bit_or (cleared mask byte) bits)

-- nothing where the bit stands so already
unfoldable pub switching : ℕ → Bool → ℕ → Option ℕ
switching mask on byte = when stands mask on byte then none else some (switched mask on byte)

-- ---- 04, bit 3: cleared, and then tested
abbrev pub thermistor : ℕ → Bool
thermistor byte = holds 0b0000_1000 (cleared 0b0000_1000 byte)
