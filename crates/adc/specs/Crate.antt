-- The crate's own two lines for a voltage, which hand it on as a u32: below zero 2^32 less its size.
-- They are in whole numbers here; the crate computes them in `i32`.
-- Assumes nothing.
use Rattle.std.specs.Prelude.{ℕ, ◌^◌, ◌<◌, ◌≡◌, ℤ, pos, ◌+ℤ◌, ◌*ℤ◌}
use Rattle.std.specs.Int.Signed.{mag}
use Rattle.numbers.specs.Numbers.{◌÷◌, as_u32, as_i32}

-- let uv = adc_reading * self.gain as i32 + self.offset as i32 * 1000
abbrev pub crate_uv : ℕ → ℤ → ℕ → ℤ
crate_uv gain offset reading = pos reading *ℤ pos gain +ℤ offset *ℤ pos 1000

-- let voltage = 4 * (self.adc_gain as i32) * (vv as i32) + 5 * (self.adc_offset as i32) * 1000
abbrev pub crate_pack_uv : ℕ → ℤ → ℕ → ℤ
crate_pack_uv gain offset reading = pos 4 *ℤ pos gain *ℤ pos reading +ℤ pos 5 *ℤ offset *ℤ pos 1000

-- MilliVolts((uv / 1000) as u32)
abbrev pub crate_millivolts : ℤ → ℕ
crate_millivolts uv = as_u32 (uv ÷ 1000)

-- of what the crate divides: its `i32` holds it, in both builds, and the u32 that comes of it is, in two's complement, so many mV; `mag` is n of n and
-- of -(n + 1)
abbrev pub CrateGives : ℤ → ℤ → Type 0
CrateGives uv mv = (mag uv < 2 ^ 31) × (as_i32 (crate_millivolts uv) ≡ mv)
