-- The words of the theorems on which plan is refused with which number.
-- Assumes nothing.
use Rattle.std.specs.Prelude.{ℕ, Bool, false, not, ◌&&◌, ◌||◌, List, [], eqb, leb, ℤ}
use Rattle.std.proofs.Math.Option.{Option, none, some}
use Rattle.laws.specs.Choice.{when◌then◌else◌}
use Rattle.refusals.specs.Refusal.{Refusal, Answer, value, refused, no}
use Rattle.protection.specs.Ranges.{is_in}
use Rattle.protection.specs.Steps.{scd_lower, scd_upper, ocd_lower, ocd_upper}
use Rattle.plan.specs.Steps.{scd_step, ocd_step}
use Rattle.plan.specs.Trips.{ov_limits, uv_limits, figures, obtainable}
use Rattle.plan.specs.declared.Config.{Config}

-- whether an answer is the refusal n
abbrev pub is_no : {A : Type 0} → ℕ → Answer A → Bool
is_no n (value a) = false
is_no n (refused r) = eqb r.number n

abbrev pub only_in : ℕ → List ℕ → List ℕ → Bool
only_in n these others = is_in n these && not (is_in n others)

-- one step is in the lower range only, the other in the upper only
abbrev pub apart : ℕ → ℕ → Bool
apart scd ocd =
    only_in scd scd_lower scd_upper && only_in ocd ocd_upper ocd_lower
    || only_in scd scd_upper scd_lower && only_in ocd ocd_lower ocd_upper

-- the refusal in an answer, where it is 6, 7 or 8
abbrev pub of678 : {A : Type 0} → Answer A → Option Refusal
of678 (value a) = none
of678 (refused r) = when leb 6 r.number && leb r.number 8 then some r else none

-- 6 where the steps are apart; or else 8 where the overvoltage asked is outside what OV_TRIP can stand for; or else 7 where the undervoltage is
-- outside what UV_TRIP can; each of these two with the limits
abbrev pub unfit : ℕ → ℤ → Config → Option Refusal
unfit gain offset config =
    when apart (scd_step config) (ocd_step config) then some (no 6 [])
    else when not (obtainable config.ov_threshold.0 (ov_limits gain offset)) then some (no 8 (figures (ov_limits gain offset)))
    else when not (obtainable config.uv_threshold.0 (uv_limits gain offset)) then some (no 7 (figures (uv_limits gain offset)))
    else none
