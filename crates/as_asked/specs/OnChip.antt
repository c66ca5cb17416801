-- Demand 2 on the model chip: its registers after an accepted `init`, beside those before it.
-- Assumes nothing.
use Rattle.std.specs.Prelude.{ℕ, ◌+◌, ◌≤◌, ◌<◌, ◌≡◌, List, ◌++◌, length, drop, get_or}
use Rattle.check_byte.specs.CheckByte.{Bytes}
use Rattle.refusals.specs.Refusal.{value}
use Rattle.plan.specs.AsAsked.{AsAsked}
use Rattle.plan.specs.Plan.{Values}
use Rattle.plan.specs.Steps.{steps_for}
use Rattle.plan.specs.declared.Config.{Config}
use Rattle.bq769x0.specs.declared.BQ769x0.{BQ769x0}
use Rattle.procedure.specs.Init.{init_by}
use Rattle.chip.specs.Chip.{held}
use Rattle.chip.specs.Devices.{tape_of}
use Rattle.chip.specs.OnChip.{Matches, Wired, on_wire}
use Rattle.chip.specs.declared.Chip.{Chip}
use Rattle.recovery.specs.Recovery.{calibration_of}
use Rattle.runs.specs.Calls.{left_by}
use Rattle.recovery.specs.Runs.{Call, enough}
use Rattle.as_asked.specs.Tables.{table05, counting}

pub record SetOnChip (config : Config) (v : Values) (before after : Chip) : Type 0 where
  -- 06 to 0B by the register table, on the calibration that the chip holds
  pub as_asked_is : AsAsked (calibration_of before).gain (calibration_of before).offset config (held 0x06 6 after.regs) v
  -- 05: the counter is on, and all else as it was
  pub counter : table05 (get_or after.regs 0x05 0) ≡ counting (table05 (get_or before.regs 0x05 0))
  -- no other register changes
  pub below : (i : ℕ) → i < 0x05 → get_or after.regs i 0 ≡ get_or before.regs i 0
  pub above : (i : ℕ) → 0x0B < i → get_or after.regs i 0 ≡ get_or before.regs i 0

-- a call of `init`: where the tape goes on as a chip answers, on any wire, the log has room, and it is accepted, its own log leaves that chip set as
-- asked
abbrev pub SetOnEveryChip : Config → BQ769x0 → Call → Type 0
SetOnEveryChip config d call =
    (w : Wired) (rest : List ℕ) (v : Values) → Matches d.link w.chip → Bytes w.chip.regs
    → drop call.at.tape call.tape ≡ tape_of on_wire (init_by steps_for d config) w ++ rest
    → call.at.log + enough d.link.check ≤ length call.log
    → call.gave.answer ≡ value v
    → SetOnChip config v w.chip (left_by w call)
