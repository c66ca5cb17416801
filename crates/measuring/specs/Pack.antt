-- The pack's current and voltage, as programs beside the crate's `current` and `voltage`.
-- Assumes nothing.
use Rattle.std.specs.Prelude.{not, ℤ, Result}
use Rattle.numbers.specs.Numbers.{as_i16}
use Rattle.refusals.specs.Refusal.{Answer, value, refused, refused_if, as_answer, nine}
use Rattle.refusals.specs.declared.Error.{Error}
use Rattle.units.specs.declared.MilliVolts.{MilliVolts}
use Rattle.adc.specs.Conversion.{milliamperes, pack_millivolts}
use Rattle.bus.specs.Programs.{Prog, ret, ◌or_leave◌, ◌>>=◌}
use Rattle.bus.specs.Raw.{Done}
use Rattle.bq769x0.specs.Registers.{soundly}
use Rattle.bq769x0.specs.declared.BQ769x0.{BQ769x0}
use Rattle.measuring.specs.Word.{read_word}

-- 4
abbrev pub initialised : BQ769x0 → Answer Done
initialised d = refused_if (not d.init_complete) 4 (value tt)

-- 32 and 33: the coulomb counter, signed
unfoldable pub current : BQ769x0 → Prog (Answer ℤ)
current d = soundly d (refused nine) (do
  _ ← ret (initialised d) or_leave refused
  cc ← read_word d.link 0x32 or_leave refused
  ret (milliamperes (as_i16 cc) d.shunt.0))

abbrev pub as_voltage : Result MilliVolts Error → Answer ℤ
as_voltage = as_answer (λ voltage. voltage.0)

-- 2A and 2B: with an offset for each fitted cell, by the record's count
unfoldable pub voltage : BQ769x0 → Prog (Answer ℤ)
voltage d = soundly d (refused nine) (do
  reading ← read_word d.link 0x2A or_leave refused
  ret (value (pack_millivolts d.cell_count d.adc.gain d.adc.offset reading)))
