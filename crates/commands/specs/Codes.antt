-- A mode and a source, as a job and C have them in numbers.
-- Assumes nothing.
use Rattle.std.specs.Prelude.{ℕ, Bool, eqb}
use Rattle.laws.specs.Choice.{when◌then◌else◌}
use Rattle.commands.specs.declared.control.TemperatureSource.{TemperatureSource}
use Rattle.commands.specs.declared.control.TemperatureSource.TheVariants as T
use Rattle.commands.specs.declared.counter.CoulombCounterMode.{CoulombCounterMode}
use Rattle.commands.specs.declared.counter.CoulombCounterMode.TheVariants as M

abbrev pub source_by : Bool → TemperatureSource
source_by thermistor = when thermistor then T.ExternalThermistor else T.InternalDie

-- 0 off, 1 once, any other always
abbrev pub mode_by : ℕ → CoulombCounterMode
mode_by code = when eqb code 0 then M.Disabled else when eqb code 1 then M.OneShot else M.Continuous
