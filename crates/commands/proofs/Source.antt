-- `temperature_source` answers the die or a refusal, whatever tape and log hold: the bit is cleared before it is
-- tested.
-- Assumes nothing.
use mathlib.Core.Path.{◌≡◌}
use mathlib.Core.Bool.{Bool, true, false, not}
use Rattle.refusals.specs.Refusal.{Answer, value, refused, nine}
use Rattle.laws.specs.Choice.{when◌then◌else◌}
use Rattle.bus.specs.Transfers.{Bus}
use Rattle.bus.specs.Programs.{ret, on_tape}
use Rattle.bq769x0.specs.Record.{is_sound}
use Rattle.bq769x0.specs.Registers.{soundly}
use Rattle.bq769x0.specs.declared.BQ769x0.{BQ769x0}
use Rattle.bus.proofs.Always.{always, on_tape_lem, always_call}
use Rattle.commands.specs.Registers.{read_register, read_as}
use Rattle.commands.specs.Commands.{source_in, temperature_source}
use Rattle.commands.specs.declared.control.TemperatureSource.{TemperatureSource}
use Rattle.commands.specs.declared.control.TemperatureSource.TheVariants as T
use Rattle.bits.proofs.Unseen.{unseen}

abbrev pub Die : Answer TemperatureSource → Type 0
Die (value source) = source ≡ T.InternalDie
Die (refused r) = Unit {0}

pub die_alone : (d : BQ769x0) (b : Bus) → Die (on_tape (temperature_source d) b).answer
unfolding soundly read_as always
die_alone d b = on_tape_lem Die (temperature_source d) (by_test (is_sound d)) b
  where
    by_test : (sound : Bool) → always Die (when not sound then ret (refused nine) else read_as source_in d.link 0x04)
    by_test true = always_call Die refused _ (λ r. tt) (read_register d.link 0x04) λ byte. rw (unseen byte)
    by_test false = tt
