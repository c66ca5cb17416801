-- The answers of commands that read, in the terms of programs.
-- Assumes nothing.
use Rattle.std.specs.Prelude.{ℕ, Bool, Result}
use Rattle.refusals.specs.Refusal.{Answer, as_answer}
use Rattle.refusals.specs.declared.Error.{Error}
use Rattle.units.specs.declared.flags.Stat.{Stat}
use Rattle.commands.specs.declared.control.TemperatureSource.{TemperatureSource}

abbrev pub as_byte : Result ℕ Error → Answer ℕ
as_byte = as_answer (λ byte. byte)

abbrev pub as_set : Result ℕ Error → Answer ℕ
as_set = as_answer (λ set. set)

abbrev pub as_stat : Result Stat Error → Answer Stat
as_stat = as_answer (λ stat. stat)

abbrev pub as_flag : Result Bool Error → Answer Bool
as_flag = as_answer (λ flag. flag)

abbrev pub as_source : Result TemperatureSource Error → Answer TemperatureSource
as_source = as_answer (λ source. source)
