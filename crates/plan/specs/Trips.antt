-- The trip registers for two asked voltages: the code of each, and whether it is within what the register can stand for.
-- Assumes nothing.
use Rattle.std.specs.Prelude.{ℕ, Bool, cond, ◌&&◌, List, [], ◌∷◌, ℤ}
use Rattle.std.specs.Int.Signed.{le_z}
use Rattle.refusals.specs.Refusal.{Answer, value, refused, no}
use Rattle.adc.specs.Trips.{ov_trip, uv_trip, limits, asked_reading, trip_code}
use Rattle.adc.specs.declared.transfer.Limits.{Limits}
use Rattle.plan.specs.Order.{◌and_then◌}

-- the code for an asked voltage; a gain of 0 is 9
unfoldable pub trip_code_for : ℕ → ℤ → ℤ → Answer ℕ
trip_code_for gain offset asked = asked_reading gain offset asked and_then λ reading. value (trip_code reading)

-- what the trip registers can stand for: the voltages in mV at codes 00 and FF
abbrev pub ov_limits : ℕ → ℤ → Limits
ov_limits gain offset = limits gain offset (ov_trip 0x00) (ov_trip 0xFF)

abbrev pub uv_limits : ℕ → ℤ → Limits
uv_limits gain offset = limits gain offset (uv_trip 0x00) (uv_trip 0xFF)

abbrev pub figures : Limits → List ℤ
figures limits = limits.low.0 ∷ limits.high.0 ∷ []

-- from the voltage at code 00 to that at code FF, both in
abbrev pub obtainable : ℤ → Limits → Bool
obtainable asked limits = le_z limits.low.0 asked && le_z asked limits.high.0

-- the refusal n, with the limits, where asked is outside them
unfoldable pub obtainable_or : ℕ → ℤ → Limits → Answer (Unit {0})
obtainable_or n asked limits = cond (obtainable asked limits) (value tt) (refused (no n (figures limits)))

-- 8 for the overvoltage, then 7 for the undervoltage
unfoldable pub within_for : ℕ → ℤ → ℤ → ℤ → Answer (Unit {0})
within_for gain offset ov uv =
    obtainable_or 8 ov (ov_limits gain offset) and_then λ _.
    obtainable_or 7 uv (uv_limits gain offset)
