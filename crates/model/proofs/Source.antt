-- `temperature_source` on the model chip: the die or a refusal, wherever the wire is cut; and on a whole wire the die,
-- whatever bit 3 of 04 is.
-- Assumes nothing.
use mathlib.Core.Path.{◌≡◌, ap, subst, ◌∙◌}
use mathlib.Core.Bool.{true}
use native.Mathlib.Omega.{arith}
use lib.ListN.{get_or}
use Rattle.refusals.specs.Refusal.{Answer, value, refused}
use Rattle.bus.specs.Raw.{read_bytes}
use Rattle.bq769x0.specs.Record.{is_sound}
use Rattle.bq769x0.specs.Registers.{soundly}
use Rattle.bq769x0.specs.declared.BQ769x0.{BQ769x0}
use Rattle.commands.specs.Registers.{read_register, read_as}
use Rattle.commands.specs.Commands.{source_in, temperature_source}
use Rattle.commands.specs.declared.control.TemperatureSource.{TemperatureSource}
use Rattle.commands.specs.declared.control.TemperatureSource.TheVariants as T
use Rattle.commands.proofs.Source.{Die, die_alone}
use Rattle.chip.specs.Devices.{Reached, reached, on_device}
use Rattle.chip.specs.Chip.{held}
use Rattle.chip.specs.OnChip.{Matches, Wired, uncut, on_wire, on_chip}
use Rattle.chip.specs.declared.Chip.{Chip}
use Rattle.chip.proofs.Devices.{went_on}
use Rattle.chip.proofs.Uncut.{read_uncut}
use Rattle.model.proofs.OnEveryChip.{on_every_chip}
use Rattle.bq769x0.proofs.Speaks.{link_sound, some_inputs}

pub source_anywhere : (d : BQ769x0) (w : Wired) → Die (on_chip (temperature_source d) w).answer
source_anywhere d w = on_every_chip Die (temperature_source d) (die_alone d) w

module _ (d : BQ769x0) (ok : is_sound d ≡ true) (c : Chip) (m : Matches d.link c) where
  register_read : on_chip (read_register d.link 0x04) (uncut c) ≡ reached (value (get_or c.regs 0x04 0)) (uncut c)
  unfolding read_register on_device held
  register_read =
      went_on on_wire (read_bytes d.link 0x04 1) refused _ (uncut c) (uncut c) _
      (read_uncut d.link (link_sound d ok) c m 0x04 1 (omega arith) (omega arith) (omega (arith, some_inputs d ok)))

  as_read_lem : on_chip (temperature_source d) (uncut c) ≡ reached (value (source_in (get_or c.regs 0x04 0))) (uncut c)
  unfolding soundly read_as on_device
  as_read_lem = simp ok (went_on on_wire (read_register d.link 0x04) refused _ (uncut c) (uncut c) _ register_read)

  pub source_uncut : on_chip (temperature_source d) (uncut c) ≡ reached (value T.InternalDie) (uncut c)
  source_uncut =
      let die : source_in (get_or c.regs 0x04 0) ≡ T.InternalDie =
      subst Die (ap (λ (r : Reached Wired (Answer TemperatureSource)). r.answer) as_read_lem)
      (source_anywhere d (uncut c)) in
      as_read_lem ∙ ap (λ (s : TemperatureSource). reached (value s) (uncut c)) die
