-- What a status reset answers on the model chip, and what it leaves there.
-- Assumes nothing.
use Rattle.std.specs.Prelude.{Bool, true, false, ◌&&◌, [], ◌∷◌, ℕ, eqb, pos}
use Rattle.refusals.specs.Refusal.{no, Answer, value, refused}
use Rattle.laws.specs.Choice.{when◌then◌else◌}
use Rattle.bus.specs.Raw.{Done}
use Rattle.chip.specs.Chip.{with_regs, arrives}
use Rattle.chip.specs.declared.Chip.{Chip}

-- by the build, the status before and the flags: without checks the cleared status is compared with the flags,
-- so 5 with register 00 unless both are 0
abbrev pub reset_answer : Bool → ℕ → ℕ → Answer Done
reset_answer true status flags = value tt
reset_answer false status flags = when eqb flags 0 && eqb status 0 then value tt else refused (no 5 (pos 0x00 ∷ []))

-- the flags cleared; the chip's Status laws say it bit by bit
abbrev pub flags_cleared : ℕ → Chip → Chip
flags_cleared flags c = with_regs c (arrives 0x00 flags c.regs)
