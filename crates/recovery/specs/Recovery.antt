-- What an `init` that was cut leaves on the chip and in the record.
-- Assumes nothing.
use Rattle.std.specs.Prelude.{◌≡◌, Bool, true, false, ◌&&◌, List, [], ℕ, ◌≤◌, length, take, get_or, set}
use Rattle.std.proofs.Math.Option.{Option, none, some}
use Rattle.std.specs.Int.Bits.{bit_or}
use Rattle.refusals.specs.Refusal.{Answer, value, refused}
use Rattle.adc.specs.Registers.{calibration}
use Rattle.adc.specs.declared.transfer.AdcTransferFunction.{AdcTransferFunction}
use Rattle.frames.specs.Put.{put}
use Rattle.plan.specs.Order.{◌and_then◌}
use Rattle.plan.specs.Steps.{InMv}
use Rattle.plan.specs.Plan.{Planned, plan_for}
use Rattle.plan.specs.declared.Config.{Config}
use Rattle.laws.specs.Choice.{when◌then◌else◌}
use Rattle.bq769x0.specs.Record.{accepts, is_sound, with_calibration, with_shunt}
use Rattle.bq769x0.specs.declared.BQ769x0.{BQ769x0}
use Rattle.chip.specs.Chip.{new_bytes, with_regs}
use Rattle.chip.specs.declared.Chip.{Chip}

-- the calibration that the chip holds
abbrev pub calibration_of : Chip → AdcTransferFunction
calibration_of c = calibration (get_or c.regs 0x50 0) (get_or c.regs 0x51 0) (get_or c.regs 0x59 0)

-- the plan for a configuration on a chip, the steps chosen in some way
unfoldable pub plan_on : (Config → Answer InMv) → Config → Chip → Answer Planned
plan_on choose config c =
    choose config and_then λ steps.
    plan_for (calibration_of c).gain (calibration_of c).offset config steps.scd steps.ocd

-- its six bytes
abbrev pub bytes_of : Answer Planned → List ℕ
bytes_of (value plan) = plan.regs
bytes_of (refused r) = []

-- 06 to 0B: the first n new and the rest old
abbrev pub first_new : ℕ → List ℕ → List ℕ → List ℕ
first_new n six regs = put regs 0x06 (take n six)

-- 05: its byte with bit 6 set and all others as they were
abbrev pub bit6 : ℕ
bit6 = 0b0100_0000

abbrev pub counted : List ℕ → List ℕ
counted regs = set regs 0x05 (bit_or (get_or regs 0x05 0) bit6)

-- the first n new, and 05 set or not
abbrev pub regs_left : Bool → ℕ → List ℕ → List ℕ → List ℕ
regs_left on n six regs = when on then counted (first_new n six regs) else first_new n six regs

module _ (choose : Config → Answer InMv) (config : Config) (c : Chip) where
  -- the six bytes that are new; none where the configuration is refused
  abbrev pub six : List ℕ
  six = bytes_of (plan_on choose config c)

  abbrev pub chip_left : Bool → ℕ → Chip
  chip_left on n = with_regs c (regs_left on n six c.regs)

-- how many of the six an `init` of this record brings, on a wire that is cut so: none where the record is not sound or a read of the
-- calibration is cut, and else as many as were complete when their write was
abbrev pub is_whole : Option ℕ → Bool
is_whole none = true
is_whole (some j) = false

abbrev pub brought : BQ769x0 → (ℕ → Option ℕ) → List ℕ → ℕ
brought d cuts six =
    when is_sound d && (is_whole (cuts 0) && is_whole (cuts 1)) then new_bytes d.link.check (cuts 2) six else 0

module _ (choose : Config → Answer InMv) (config : Config) (d : BQ769x0) (c : Chip) (new : ℕ) where
  -- the record as it was; or with the chip's calibration, if the steps were chosen; or with the mark and the new shunt
  -- too, all six being new
  pub data Recorded : BQ769x0 → Type 0 where
    as_it_was : Recorded d
    calibrated : accepts (choose config) ≡ true → Recorded (with_calibration d (calibration_of c))
    marked : new ≡ 6 → Recorded (with_shunt (with_calibration d (calibration_of c)) config.shunt)

  -- the record and the chip that are left, so many of the six being new
  pub record Leaves (d' : BQ769x0) (c' : Chip) : Type 0 where
    -- which is none where the configuration is refused
    pub few : new ≤ length (six choose config c)
    -- 05 is its old byte, or set once all six are new
    pub on : Bool
    pub last : on ≡ true → new ≡ 6
    -- no other register changes
    pub chip : c' ≡ chip_left choose config c on new
    pub recorded : Recorded d'
