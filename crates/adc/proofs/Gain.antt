-- Every calibration's gain is from 365 to 396 and its offset is a signed byte, -128 to 127, whatever the registers hold.
-- Assumes nothing.
use mathlib.Core.Path.{refl}
use Prim.Native.Nat.{ℕ, ◌≤◌, ◌<◌}
use native.Mathlib.Omega.{arith}
use lib.Signed.{mag}
use mir.Syntax.{w8}
use Rattle.numbers.specs.Numbers.{as_i8}
use Rattle.numbers.proofs.Signed.{twos_fits}
use Rattle.adc.specs.Registers.{gain_of}

pub gain_range : (b50 b59 : ℕ) → (365 ≤ gain_of b50 b59) × (gain_of b50 b59 ≤ 396)
gain_range b50 b59 = omega arith

-- `mag` is n of n and of -(n + 1)
pub offset_range : (b51 : ℕ) → b51 < 256 → mag (as_i8 b51) < 128
offset_range b51 byte = (twos_fits w8 128 b51 refl byte).sfits
