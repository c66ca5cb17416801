-- No range has both steps just where one step is in the lower only and the other in the upper only: the sixteen cases of the four memberships.
-- Assumes nothing.
use mathlib.Core.Path.{◌≡◌, refl, ap, ◌∙◌}
use mathlib.Core.Bool.{Bool, true, false, false≢true, cond, not, ◌&&◌, ◌||◌}
use mathlib.Core.List.{[]}
use Rattle.refusals.specs.Refusal.{Answer, value, refused, no}
use Rattle.protection.specs.Ranges.{is_in}
use Rattle.protection.specs.Scd as scd
use Rattle.protection.specs.Ocd as ocd
use Rattle.protection.specs.Steps.{scd_lower, scd_upper, ocd_lower, ocd_upper}
use Rattle.protection.specs.declared.range.OCDSCDRange.{OCDSCDRange}
use Rattle.protection.specs.declared.range.OCDSCDRange.TheVariants as R
use Rattle.protection.specs.declared.scd.SCDThreshold.{SCDThreshold}
use Rattle.protection.specs.declared.ocd.OCDThreshold.{OCDThreshold}
use Rattle.protection.proofs.InRange.{scd_in, ocd_in}
use Rattle.protection.proofs.Shared.{shared}
use Rattle.plan.specs.Exactly.{is_no, apart}
use Rattle.plan.proofs.After.{choice}

table :
    (sl su ol ou : Bool) → sl || su ≡ true → ol || ou ≡ true
    → is_no 6 (cond (sl && ol) (value R.Lower) (cond (su && ou) (value R.Upper) (refused (no 6 []))))
    ≡ (sl && not su) && (ou && not ol) || (su && not sl) && (ol && not ou)
table true true true true e f = refl
table true true true false e f = refl
table true true false true e f = refl
table true true false false e f = absurd (false≢true f)
table true false true true e f = refl
table true false true false e f = refl
table true false false true e f = refl
table true false false false e f = absurd (false≢true f)
table false true true true e f = refl
table false true true false e f = refl
table false true false true e f = refl
table false true false false e f = absurd (false≢true f)
table false false ol ou e f = absurd (false≢true e)

pub choice_apart : (s : SCDThreshold) (o : OCDThreshold) → is_no 6 (choice (scd.mv_of s) (ocd.mv_of o)) ≡ apart (scd.mv_of s) (ocd.mv_of o)
choice_apart s o =
    ap (λ (a : Answer OCDSCDRange). is_no 6 a) (shared s o)
    ∙ table (is_in (scd.mv_of s) scd_lower) (is_in (scd.mv_of s) scd_upper) (is_in (ocd.mv_of o) ocd_lower) (is_in (ocd.mv_of o) ocd_upper) (scd_in s) (ocd_in o)
