-- The register commands, as programs beside the crate's: 9 first on a record that is not sound.
-- Assumes nothing.
use Rattle.std.specs.Prelude.{ℕ, Bool, [], ◌∷◌}
use Rattle.refusals.specs.Refusal.{Answer, value, refused, nine}
use Rattle.units.specs.Flags.{bit}
use Rattle.units.specs.declared.flags.Stat.{Stat}
use Rattle.units.specs.declared.flags.SysStat.{SysStat}
use Rattle.laws.specs.Choice.{when◌then◌else◌}
use Rattle.bus.specs.Programs.{Prog, ret, ◌or_leave◌, ◌>>=◌}
use Rattle.bus.specs.Raw.{Done, refuses}
use Rattle.bus.specs.Raw as link
use Rattle.bq769x0.specs.Registers.{soundly, write_raw}
use Rattle.bq769x0.specs.declared.BQ769x0.{BQ769x0}
use Rattle.cellbal.specs.Rules.{allowed}
use Rattle.cellbal.specs.Registers.{register_count, registers_for, set_of}
use Rattle.bits.specs.Bits.{placed, putting, switching, thermistor, holds}
use Rattle.commands.specs.Registers.{read_register, read_as, changing}
use Rattle.commands.specs.declared.control.TemperatureSource.{TemperatureSource}
use Rattle.commands.specs.declared.control.TemperatureSource.TheVariants as T
use Rattle.commands.specs.declared.counter.CoulombCounterMode.{CoulombCounterMode}
use Rattle.commands.specs.declared.counter.CoulombCounterMode.TheVariants as M

-- ---- balancing: 01 alone, as the crate has it
abbrev pub enable_balancing : BQ769x0 → ℕ → Prog (Answer Done)
enable_balancing d cells = write_raw d 0x01 (cells ∷ [])

abbrev pub balancing_state : BQ769x0 → Prog (Answer ℕ)
balancing_state d = soundly d (refused nine) (read_register d.link 0x01)

-- ---- balancing: a set of the inputs of a whole device, in 01 to 03 as far as it has them; 22, 23, 24 ahead of the one write
unfoldable pub balance_set : BQ769x0 → ℕ → ℕ → Prog (Answer Done)
balance_set d set limit = soundly d (refused nine) (do
  _ ← ret (allowed d.link.x set limit) or_leave refused
  link.write_raw d.link 0x01 (registers_for d.link.x set))

-- the set that they hold
unfoldable pub balance_get : BQ769x0 → Prog (Answer ℕ)
balance_get d = soundly d (refused nine) (do
  bytes ← link.read_bytes d.link 0x01 (register_count d.link.x) or_leave refused
  ret (value (set_of bytes)))

-- ---- status: 00
abbrev pub stat_of : ℕ → Stat
stat_of byte = record { bits = byte }

abbrev pub sys_stat : BQ769x0 → Prog (Answer Stat)
sys_stat d = soundly d (refused nine) (read_as stat_of d.link 0x00)

-- 18 for bit 6, which is no flag
abbrev pub sys_stat_reset : BQ769x0 → SysStat → Prog (Answer Done)
sys_stat_reset d flags = soundly d (refused nine) (
    when bit 6 flags.bits then ret (refuses 18)
    else link.write_raw d.link 0x00 (flags.bits ∷ []))

-- ---- switches: 05, bit 1 discharging, bit 0 charging
abbrev pub discharge : BQ769x0 → Bool → Prog (Answer Done)
discharge d enable = soundly d (refused nine) (changing d.link 0x05 (switching 0b0000_0010 enable))

abbrev pub charge : BQ769x0 → Bool → Prog (Answer Done)
charge d enable = soundly d (refused nine) (changing d.link 0x05 (switching 0b0000_0001 enable))

abbrev pub is_charge_enabled : BQ769x0 → Prog (Answer Bool)
is_charge_enabled d = soundly d (refused nine) (read_as (holds 0b0000_0001) d.link 0x05)

-- ---- ship mode: 04
abbrev pub ship_enter : BQ769x0 → Prog (Answer Done)
ship_enter d = soundly d (refused nine) (do
  _ ← link.write_raw d.link 0x04 (0b0000_0000 ∷ []) or_leave refused
  _ ← link.write_raw d.link 0x04 (0b0000_0001 ∷ []) or_leave refused
  link.write_raw d.link 0x04 (0b0000_0010 ∷ []))

-- ---- control: 04, bit 4 the converter, bit 3 the thermistor
abbrev pub enable_adc : BQ769x0 → Bool → Prog (Answer Done)
enable_adc d enable =
    soundly d (refused nine) (changing d.link 0x04 (putting 0b0001_0000 (placed 0b0001_0000 enable)))

abbrev pub source_bits : TemperatureSource → ℕ
source_bits T.InternalDie = 0
source_bits T.ExternalThermistor = 0b0000_1000

abbrev pub set_temperature_source : BQ769x0 → TemperatureSource → Prog (Answer Done)
set_temperature_source d source =
    soundly d (refused nine) (changing d.link 0x04 (putting 0b0000_1000 (source_bits source)))

-- the bit is cleared, and then tested
abbrev pub source_in : ℕ → TemperatureSource
source_in byte = when thermistor byte then T.ExternalThermistor else T.InternalDie

abbrev pub temperature_source : BQ769x0 → Prog (Answer TemperatureSource)
temperature_source d = soundly d (refused nine) (read_as source_in d.link 0x04)

-- ---- the coulomb counter: 05, bit 6 always, bit 5 once
abbrev pub mode_bits : CoulombCounterMode → ℕ
mode_bits M.Disabled = 0
mode_bits M.OneShot = 0b0010_0000
mode_bits M.Continuous = 0b0100_0000

abbrev pub coulomb_counter_mode : BQ769x0 → CoulombCounterMode → Prog (Answer Done)
coulomb_counter_mode d mode = soundly d (refused nine) (changing d.link 0x05 (putting 0b0110_0000 (mode_bits mode)))
