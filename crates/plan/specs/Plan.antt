-- What `init` writes and reports for a configuration: the refusals in their order, the six bytes for 06 to 0B, and the values reported.
-- Assumes nothing.
use Rattle.std.specs.Prelude.{ℕ, ◌*◌, ◌/◌, List, [], ◌∷◌, ◌++◌, ℤ, Result}
use Rattle.refusals.specs.Refusal.{Answer, value, as_answer}
use Rattle.refusals.specs.declared.Error.{Error}
use Rattle.protection.specs.Ranges.{range_for, for_both}
use Rattle.protection.specs.Steps.{scd_lower, scd_upper, ocd_lower, ocd_upper}
use Rattle.protection.specs.declared.range.OCDSCDRange.{OCDSCDRange}
use Rattle.adc.specs.Conversion.{millivolts}
use Rattle.adc.specs.Trips.{ov_trip, uv_trip}
use Rattle.plan.specs.Order.{◌and_then◌}
use Rattle.plan.specs.Steps.{shunt_for}
use Rattle.plan.specs.Trips.{trip_code_for, within_for}
use Rattle.plan.specs.Registers.{protect_for}
use Rattle.plan.specs.declared.Config.{Config}
use Rattle.plan.specs.declared.CalculatedValues.{CalculatedValues}
use Rattle.plan.specs.declared.Plan.{Plan}

-- the range used, the two currents in A, the two voltages in mV
pub record Values : Type 0 where
  pub range : OCDSCDRange
  pub scd : ℕ
  pub ocd : ℕ
  pub uv : ℤ
  pub ov : ℤ

pub record Planned : Type 0 where
  pub values : Values
  pub regs : List ℕ

-- a step's current is its mV over the shunt in µΩ, the fraction dropped; a threshold is the voltage at the trip reading of the code written
abbrev pub values_for : ℕ → ℤ → ℕ → ℕ → ℕ → OCDSCDRange → ℕ → ℕ → Values
values_for gain offset shunt scd ocd range ov_code uv_code = record {
  range = range;
  scd = scd * 1000 / shunt;
  ocd = ocd * 1000 / shunt;
  uv = millivolts gain offset (uv_trip uv_code);
  ov = millivolts gain offset (ov_trip ov_code);
}

-- 06, 07 and 08, then OV_TRIP (09), UV_TRIP (0A) and CC_CFG (0B)
unfoldable pub set_for : ℕ → ℤ → Config → ℕ → ℕ → OCDSCDRange → ℕ → ℕ → Answer Planned
set_for gain offset config scd ocd range ov_code uv_code =
    protect_for config scd ocd range and_then λ protect.
    value
    (record {
      values = values_for gain offset config.shunt.0 scd ocd range ov_code uv_code;
      regs = protect ++ (ov_code ∷ uv_code ∷ 0x19 ∷ []);
    })

-- 12, 9, 6, 8, 7, and else the setting, whose range is never Unknown; scd and ocd are the steps in mV
unfoldable pub plan_for : ℕ → ℤ → Config → ℕ → ℕ → Answer Planned
plan_for gain offset config scd ocd =
    shunt_for config.shunt.0 and_then λ _.
    trip_code_for gain offset config.ov_threshold.0 and_then λ ov_code.
    trip_code_for gain offset config.uv_threshold.0 and_then λ uv_code.
    for_both (range_for scd_lower scd_upper scd) (range_for ocd_lower ocd_upper ocd) and_then λ range.
    within_for gain offset config.ov_threshold.0 config.uv_threshold.0 and_then λ _.
    set_for gain offset config scd ocd range ov_code uv_code

abbrev pub as_values : CalculatedValues → Values
as_values v = record {
  range = v.ocdscd_range_used;
  scd = v.scd_threshold.0;
  ocd = v.ocd_threshold.0;
  uv = v.uv_threshold.0;
  ov = v.ov_threshold.0;
}

abbrev pub as_init : Result CalculatedValues Error → Answer Values
as_init = as_answer as_values

abbrev pub as_planned : Plan → Planned
as_planned p = record { values = as_values p.values; regs = p.regs }

abbrev pub as_plan : Result Plan Error → Answer Planned
as_plan = as_answer as_planned
