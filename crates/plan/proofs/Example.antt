-- The worked example: 50 A and 20 A at 1000 µΩ, 2800 and 4200 mV, on a chip of gain 365 and offset 0.
-- Assumes nothing.
use mathlib.Core.Path.{◌≡◌, refl}
use mathlib.Core.List.{[], ◌∷◌}
use lib.IntN.{pos}
use Rattle.refusals.specs.Refusal.{value}
use Rattle.protection.specs.Ranges.{range_for, code_for}
use Rattle.protection.specs.Steps.{step, mv_across}
use Rattle.protection.specs.declared.delays.SCDDelay.TheVariants as S
use Rattle.protection.specs.declared.delays.OCDDelay.TheVariants as O
use Rattle.protection.specs.declared.delays.UVDelay.TheVariants as U
use Rattle.protection.specs.declared.delays.OVDelay.TheVariants as W
use Rattle.protection.specs.declared.range.OCDSCDRange.TheVariants as R
use Rattle.plan.specs.Order.{◌and_then◌}
use Rattle.plan.specs.Plan.{set_for, plan_for}
use Rattle.plan.specs.Registers.{protect_for}
use Rattle.plan.specs.Steps.{shunt_for, steps_for}
use Rattle.plan.specs.Trips.{trip_code_for, obtainable_or, within_for}
use Rattle.plan.specs.declared.Config.{Config}

abbrev config : Config
config = record {
  shunt = record { 0 = 1000 };
  scd_delay = S._200uS;
  scd_threshold = record { 0 = 50 };
  ocd_delay = O._320ms;
  ocd_threshold = record { 0 = 20 };
  uv_delay = U._4s;
  uv_threshold = record { 0 = pos 2800 };
  ov_delay = W._2s;
  ov_threshold = record { 0 = pos 4200 };
}

pub steps : steps_for config ≡ value (record { scd = 56; ocd = 22 })
unfolding steps_for ◌and_then◌ shunt_for step mv_across
steps = refl

pub plan :
    plan_for 365 (pos 0) config 56 22
    ≡ value
    (record {
      values = record { range = R.Lower; scd = 56; ocd = 22; uv = pos 2797; ov = pos 4201 };
      regs = 0x13 ∷ 0x55 ∷ 0x50 ∷ 0xCF ∷ 0xDF ∷ 0x19 ∷ [];
    })
unfolding plan_for set_for ◌and_then◌ shunt_for trip_code_for range_for code_for obtainable_or within_for protect_for
plan = refl
