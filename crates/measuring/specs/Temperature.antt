-- The temperature as a program beside the crate's `temperature`, over a stage that gives the reading and then its
-- source.
-- Assumes nothing.
use Rattle.std.specs.Prelude.{ℕ, ◌*◌, pos, Result}
use Rattle.refusals.specs.Refusal.{Answer, value, refused, as_answer, nine}
use Rattle.refusals.specs.declared.Error.{Error}
use Rattle.bus.specs.Programs.{Prog, ret, ◌or_leave◌, ◌>>=◌}
use Rattle.bq769x0.specs.Registers.{soundly}
use Rattle.bq769x0.specs.declared.BQ769x0.{BQ769x0}
use Rattle.commands.specs.Commands.{temperature_source}
use Rattle.commands.specs.declared.control.TemperatureSource.{TemperatureSource}
use Rattle.commands.specs.declared.control.TemperatureSource.TheVariants.{InternalDie, ExternalThermistor}
use Rattle.measuring.specs.Word.{read_word}
use Rattle.measuring.specs.declared.degrees.Temperature.{Temperature}
use Rattle.measuring.specs.declared.degrees.Temperature.TheVariants as T

pub record Sensed : Type 0 where
  pub reading : ℕ
  pub source : TemperatureSource

unfoldable pub with_source : ℕ → BQ769x0 → Prog (Answer Sensed)
with_source reading d = do
  source ← temperature_source d or_leave refused
  ret (value (record { reading = reading; source = source }))

-- 2C and 2D, then 04
unfoldable pub sense : BQ769x0 → Prog (Answer Sensed)
sense d = do
  reading ← read_word d.link 0x2C or_leave refused
  with_source reading d

-- 382 µV a step, named degrees
abbrev pub degrees : ℕ → TemperatureSource → Temperature
degrees reading InternalDie = T.InternalDie (record { 0 = pos (reading * 382) })
degrees reading ExternalThermistor = T.ExternalThermistor (record { 0 = pos (reading * 382) })

abbrev pub as_temperature : Result Temperature Error → Answer Temperature
as_temperature = as_answer (λ temperature. temperature)

unfoldable pub temperature : BQ769x0 → Prog (Answer Temperature)
temperature d = soundly d (refused nine) (do
  sensed ← sense d or_leave refused
  ret (value (degrees sensed.reading sensed.source)))
