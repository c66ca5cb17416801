-- The calibration registers: ADCGAIN1 (50), ADCOFFSET (51), ADCGAIN2 (59).
-- Assumes nothing.
use Rattle.std.specs.Prelude.{ℕ, ◌+◌, ◌-◌, ◌*◌, ◌/◌, ◌%◌, ◌^◌}
use Rattle.numbers.specs.Numbers.{as_i8}
use Rattle.adc.specs.declared.transfer.AdcTransferFunction.{AdcTransferFunction}

-- bits high to low of a byte, as a number
abbrev pub bit_field : ℕ → ℕ → ℕ → ℕ
bit_field high low byte = byte / 2 ^ low % 2 ^ (high + 1 - low)

-- the gain in µV a step: 365 and five bits, bits 3-2 of register 50 above bits 7-5 of register 59
abbrev pub gain_of : ℕ → ℕ → ℕ
gain_of b50 b59 = 365 + (bit_field 3 2 b50 * 8 + bit_field 7 5 b59)

-- register 51 is the offset in mV, a signed byte
abbrev pub calibration : ℕ → ℕ → ℕ → AdcTransferFunction
calibration b50 b51 b59 = record { gain = gain_of b50 b59; offset = as_i8 b51 }
