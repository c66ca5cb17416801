-- The definitions give every starred row what the table says of it.
-- Assumes nothing.
use mathlib.Core.Path.{◌≡◌, refl}
use mathlib.Core.List.{map}
use Rattle.protection.specs.Steps.{step, mv_across}
use Rattle.protection.specs.Ranges.{range_for, code_for}
use Rattle.check_byte.specs.CheckByte.{check_byte, divide, line, coefficient, divisor, number}
use Rattle.plan.specs.Order.{◌and_then◌}
use Rattle.plan.specs.Plan.{set_for, plan_for}
use Rattle.plan.specs.Registers.{protect_for}
use Rattle.plan.specs.Steps.{shunt_for, steps_for}
use Rattle.plan.specs.Trips.{trip_code_for, obtainable_or, within_for}
use Rattle.starred.specs.Rows.{Row, starred}

pub starred_hold : map (λ (row : Row). row.0) starred ≡ map (λ (row : Row). row.1) starred
unfolding step mv_across range_for code_for check_byte divide line coefficient divisor number set_for plan_for ◌and_then◌
    shunt_for steps_for trip_code_for obtainable_or within_for protect_for
starred_hold = refl
