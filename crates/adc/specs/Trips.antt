-- The trip registers: the reading that a code stands for, and the code that an asked voltage gets.
-- Assumes nothing.
use Rattle.std.specs.Prelude.{ℕ, ◌+◌, ◌*◌, eqb, ℤ, pos, ◌-ℤ◌, ◌*ℤ◌, Result}
use Rattle.numbers.specs.Numbers.{◌÷↓◌, ◌%↓◌}
use Rattle.refusals.specs.Refusal.{Answer, value, refused_if, as_answer}
use Rattle.refusals.specs.declared.Error.{Error}
use Rattle.adc.specs.Conversion.{millivolts}
use Rattle.adc.specs.declared.transfer.Limits.{Limits}

-- OV_TRIP: the reading 10 tttt tttt 1000, t the code
abbrev pub ov_trip : ℕ → ℕ
ov_trip code = 0b10_0000_0000_1000 + 16 * code

-- UV_TRIP: the reading 01 tttt tttt 0000
abbrev pub uv_trip : ℕ → ℕ
uv_trip code = 0b01_0000_0000_0000 + 16 * code

-- the voltages in mV at two readings
abbrev pub limits : ℕ → ℤ → ℕ → ℕ → Limits
limits gain offset low high = record {
  low = record { 0 = millivolts gain offset low };
  high = record { 0 = millivolts gain offset high };
}

-- the reading of an asked voltage in mV, rounded down
abbrev pub reading_of : ℕ → ℤ → ℤ → ℤ
reading_of gain offset asked = ((asked -ℤ offset) *ℤ pos 1000) ÷↓ gain

-- the same, refused with 9 at a gain of 0, which is no device's
abbrev pub asked_reading : ℕ → ℤ → ℤ → Answer ℤ
asked_reading gain offset asked = refused_if (eqb gain 0) 9 (value (reading_of gain offset asked))

-- the code of a reading: a sixteenth of it, rounded down, its low eight bits
abbrev pub trip_code : ℤ → ℕ
trip_code reading = reading ÷↓ 16 %↓ 256

abbrev pub as_asked : Result ℤ Error → Answer ℤ
as_asked = as_answer (λ reading. reading)
