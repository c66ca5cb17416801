-- An `init` on a sound bus of a configuration that is accepted: the values answered, the record calibrated and marked
-- with the new shunt, and on the chip the six bytes new, bit 6 of 05 set, and nothing else changed.
-- Assumes nothing.
use mathlib.Core.Path.{◌≡◌, ap₂, ◌∙◌}
use mathlib.Core.Bool.{true}
use Rattle.refusals.specs.Refusal.{Answer, value}
use Rattle.plan.specs.Steps.{InMv}
use Rattle.plan.specs.Plan.{Planned}
use Rattle.plan.specs.declared.Config.{Config}
use Rattle.plan.proofs.Accepted.{first}
use Rattle.bq769x0.specs.Record.{is_sound, with_calibration, with_shunt}
use Rattle.procedure.specs.Init.{init_by}
use Rattle.bq769x0.specs.declared.BQ769x0.{BQ769x0}
use Rattle.chip.specs.Chip.{with_regs}
use Rattle.chip.specs.OnChip.{Matches, uncut, on_chip}
use Rattle.chip.specs.declared.Chip.{Chip}
use Rattle.runs.specs.Calls.{left_by}
use Rattle.recovery.specs.Recovery.{calibration_of, plan_on, counted, first_new}
use Rattle.recovery.specs.Runs.{Call, Run}
use Rattle.recovery.proofs.Demand3.{answer_is, device_is, left_is}
use Rattle.recovery.proofs.Whole.{ends, whole}

module _ (choose : Config → Answer InMv) (config : Config) (d : BQ769x0) (c : Chip) (ok : is_sound d ≡ true) (m : Matches d.link c)
    {call : Call} (run : Run choose config d (uncut c) call) (plan : Planned) (accepted : plan_on choose config c ≡ value plan) where
  set_up_is : (steps : InMv) × (on_chip (init_by choose d config) (uncut c) ≡ ends config d c (value steps) (value plan))
  unfolding plan_on
  set_up_is =
      let steps = first (choose config) _ accepted in
      (steps.0, whole choose config d c ok m ∙ ap₂ (ends config d c) steps.1.0 accepted)

  pub answers : call.gave.answer ≡ value plan.values
  answers = answer_is choose config d run set_up_is.1

  pub records : call.gave.device ≡ with_shunt (with_calibration d (calibration_of c)) config.shunt
  records = device_is choose config d run set_up_is.1

  pub sets : left_by (uncut c) call ≡ with_regs c (counted (first_new 6 plan.regs c.regs))
  sets = left_is choose config d run set_up_is.1
