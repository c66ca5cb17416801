-- The calibration, read from registers 50, 51 and 59, as a program.
-- Assumes nothing.
use Rattle.std.specs.Prelude.{ℕ, List, get_or}
use Rattle.refusals.specs.Refusal.{value, nine}
use Rattle.adc.specs.Registers.{calibration}
use Rattle.bus.specs.Programs.{Prog, ret, ◌or_leave◌, ◌>>=◌}
use Rattle.bus.specs.Raw.{Done, read_bytes}
use Rattle.bq769x0.specs.Record.{Left, leaves, leaving, with_calibration}
use Rattle.bq769x0.specs.Registers.{soundly}
use Rattle.bq769x0.specs.declared.BQ769x0.{BQ769x0}

abbrev pub calibrated : BQ769x0 → List ℕ → List ℕ → BQ769x0
calibrated d first second = with_calibration d (calibration (get_or first 0 0) (get_or first 1 0) (get_or second 0 0))

unfoldable pub calibrate : BQ769x0 → Prog (Left Done)
calibrate d = do
  first ← read_bytes d.link 0x50 2 or_leave leaving d
  second ← read_bytes d.link 0x59 1 or_leave leaving d
  ret (leaves (value tt) (calibrated d first second))

unfoldable pub read_adc_characteristics : BQ769x0 → Prog (Left Done)
read_adc_characteristics d = soundly d (leaving d nine) (calibrate d)
