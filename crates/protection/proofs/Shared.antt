-- The range for two steps, over the published lists: the lower where it has both, or else the upper where it has both, or else 6. So 6 is given
-- just where one step is in the lower range only and the other in the upper only.
-- Assumes nothing.
use mathlib.Core.Path.{◌≡◌, refl, sym}
use mathlib.Core.Bool.{Bool, true, false, cond, ◌&&◌, ◌||◌}
use mathlib.Core.List.{[]}
use Rattle.refusals.specs.Refusal.{value, refused, no}
use Rattle.protection.specs.Ranges.{is_in, range_by, range_for, has_lower, has_upper, for_both}
use Rattle.protection.specs.Scd as scd
use Rattle.protection.specs.Ocd as ocd
use Rattle.protection.specs.Steps.{scd_lower, scd_upper, ocd_lower, ocd_upper}
use Rattle.protection.specs.declared.range.OCDSCDRange.TheVariants as R
use Rattle.protection.specs.declared.scd.SCDThreshold.{SCDThreshold}
use Rattle.protection.specs.declared.ocd.OCDThreshold.{OCDThreshold}
use Rattle.protection.proofs.InRange.{scd_in, ocd_in}

lower_is : (lower upper : Bool) → lower || upper ≡ true → has_lower (range_by lower upper) ≡ lower
lower_is true true e = refl
lower_is true false e = refl
lower_is false true e = refl
lower_is false false e = sym e

upper_is : (lower upper : Bool) → lower || upper ≡ true → has_upper (range_by lower upper) ≡ upper
upper_is true true e = refl
upper_is true false e = refl
upper_is false true e = refl
upper_is false false e = sym e

pub shared : (s : SCDThreshold) (o : OCDThreshold)
    → for_both (range_for scd_lower scd_upper (scd.mv_of s)) (range_for ocd_lower ocd_upper (ocd.mv_of o))
    ≡ cond (is_in (scd.mv_of s) scd_lower && is_in (ocd.mv_of o) ocd_lower) (value R.Lower)
    (cond (is_in (scd.mv_of s) scd_upper && is_in (ocd.mv_of o) ocd_upper) (value R.Upper) (refused (no 6 [])))
unfolding range_for
shared s o =
    let sl = is_in (scd.mv_of s) scd_lower in
    let su = is_in (scd.mv_of s) scd_upper in
    let ol = is_in (ocd.mv_of o) ocd_lower in
    let ou = is_in (ocd.mv_of o) ocd_upper in
    simp (lower_is sl su (scd_in s), lower_is ol ou (ocd_in o), upper_is sl su (scd_in s), upper_is ol ou (ocd_in o))
