-- The delay that a code names, in each list of them.
-- Assumes nothing.
use Rattle.std.specs.Prelude.{ℕ, get_or}
use Rattle.protection.specs.Delays.{scd_delays, ocd_delays, uv_delays, ov_delays}
use Rattle.protection.specs.declared.delays.SCDDelay.{SCDDelay}
use Rattle.protection.specs.declared.delays.SCDDelay.TheVariants as S
use Rattle.protection.specs.declared.delays.OCDDelay.{OCDDelay}
use Rattle.protection.specs.declared.delays.OCDDelay.TheVariants as O
use Rattle.protection.specs.declared.delays.UVDelay.{UVDelay}
use Rattle.protection.specs.declared.delays.UVDelay.TheVariants as U
use Rattle.protection.specs.declared.delays.OVDelay.{OVDelay}
use Rattle.protection.specs.declared.delays.OVDelay.TheVariants as W

-- asked of codes in the list only
abbrev pub scd_at : ℕ → SCDDelay
scd_at code = get_or scd_delays code S._70uS

abbrev pub ocd_at : ℕ → OCDDelay
ocd_at code = get_or ocd_delays code O._8ms

abbrev pub uv_at : ℕ → UVDelay
uv_at code = get_or uv_delays code U._1s

abbrev pub ov_at : ℕ → OVDelay
ov_at code = get_or ov_delays code W._1s
