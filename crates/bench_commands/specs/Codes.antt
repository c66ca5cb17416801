-- What the bench's C gives a command in numbers.
-- Assumes nothing.
use Rattle.std.specs.Prelude.{ℕ}
use Rattle.units.specs.declared.flags.SysStat.{SysStat}

abbrev pub flags_by : ℕ → SysStat
flags_by bits = record { bits = bits }
