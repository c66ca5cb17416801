-- The two steps for a configuration, in millivolts across the shunt, and the code's answer in the same terms.
-- Assumes nothing.
use Rattle.std.specs.Prelude.{ℕ, ◌*◌, ◌/◌, Bool, ◌||◌, ◌++◌, eqb, ltb, Result}
use Rattle.refusals.specs.Refusal.{Answer, value, refused_if, as_answer}
use Rattle.refusals.specs.declared.Error.{Error}
use Rattle.protection.specs.Steps.{scd_lower, scd_upper, ocd_lower, ocd_upper, step, step_for}
use Rattle.protection.specs.Scd as scd
use Rattle.protection.specs.Ocd as ocd
use Rattle.plan.specs.Order.{◌and_then◌}
use Rattle.plan.specs.declared.Config.{Config}
use Rattle.plan.specs.declared.Steps.{Steps}

-- 0, or over 2,147,483,647 µΩ
abbrev pub bad_shunt : ℕ → Bool
bad_shunt shunt = eqb shunt 0 || ltb 2147483647 shunt

unfoldable pub shunt_for : ℕ → Answer ℕ
shunt_for shunt = refused_if (bad_shunt shunt) 12 (value shunt)

pub record InMv : Type 0 where
  pub scd : ℕ
  pub ocd : ℕ

-- 12 for the shunt; 13 for a current, the short circuit's first; each step from the lists of both ranges
unfoldable pub steps_for : Config → Answer InMv
steps_for config =
    shunt_for config.shunt.0 and_then λ shunt.
    step_for (scd_lower ++ scd_upper) config.scd_threshold.0 shunt and_then λ scd.
    step_for (ocd_lower ++ ocd_upper) config.ocd_threshold.0 shunt and_then λ ocd.
    value (record { scd = scd; ocd = ocd })

-- the same two where none is refused: the least step of both ranges' lists at or above (amperes × shunt) / 1000, rounded down, or the highest
abbrev pub scd_step : Config → ℕ
scd_step config = step (scd_lower ++ scd_upper) (config.scd_threshold.0 * config.shunt.0 / 1000)

abbrev pub ocd_step : Config → ℕ
ocd_step config = step (ocd_lower ++ ocd_upper) (config.ocd_threshold.0 * config.shunt.0 / 1000)

abbrev pub in_mv : Steps → InMv
in_mv steps = record { scd = scd.mv_of steps.scd; ocd = ocd.mv_of steps.ocd }

abbrev pub as_steps : Result Steps Error → Answer InMv
as_steps = as_answer in_mv
