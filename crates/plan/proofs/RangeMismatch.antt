-- Where neither 12 nor 9 applies, the plan is refused with 6 exactly when one step is in the lower range only and the other in
-- the upper only.
-- Assumes nothing.
use mathlib.Core.Path.{◌≡◌, refl, ap, ◌∙◌}
use mathlib.Core.Bool.{true, false, false≢true}
use mathlib.Core.List.{[]}
use Prim.Native.Nat.{ℕ, ◌<◌}
use lib.IntN.{ℤ}
use Rattle.refusals.specs.Refusal.{Answer, value, refused, no}
use Rattle.protection.specs.Scd as scd
use Rattle.protection.specs.Ocd as ocd
use Rattle.protection.specs.declared.scd.SCDThreshold.{SCDThreshold}
use Rattle.protection.specs.declared.ocd.OCDThreshold.{OCDThreshold}
use Rattle.plan.specs.Exactly.{is_no, apart}
use Rattle.plan.specs.Plan.{Planned, plan_for}
use Rattle.plan.specs.Steps.{bad_shunt}
use Rattle.plan.specs.declared.Config.{Config}
use Rattle.plan.proofs.WithinNumbers.{within_other}
use Rattle.plan.proofs.After.{choice, choice_only, rest, past_9, next_not, rest_number}
use Rattle.plan.proofs.Only.{Only}
use Rattle.plan.proofs.Order.{out}
use Rattle.plan.proofs.Apart.{choice_apart}

pub range_mismatch :
    (gain : ℕ) (offset : ℤ) (config : Config) (s : SCDThreshold) (o : OCDThreshold)
    → bad_shunt config.shunt.0 ≡ false
    → 0 < gain
    → is_no 6 (plan_for gain offset config (scd.mv_of s) (ocd.mv_of o)) ≡ apart (scd.mv_of s) (ocd.mv_of o)
range_mismatch gain offset config s o shunt h =
    let a = scd.mv_of s in
    let b = ocd.mv_of o in
    ap (λ (a : Answer Planned). is_no 6 a) (past_9 gain offset config a b shunt h)
    ∙ next_not 6 (choice a b) (rest gain offset config a b)
    (λ range. rest_number 6 refl gain offset config a b range ∙ within_other gain offset _ _ 6 refl refl)
    ∙ choice_apart s o

-- and without figures
refused_6 : {A : Type 0} (a : Answer A) → Only 6 a → is_no 6 a ≡ true → a ≡ refused (no 6 [])
refused_6 (value x) only e = absurd (false≢true e)
refused_6 (refused r) only e = only r refl

pub mismatch_is :
    (gain : ℕ) (offset : ℤ) (config : Config) (s : SCDThreshold) (o : OCDThreshold)
    → bad_shunt config.shunt.0 ≡ false
    → 0 < gain
    → apart (scd.mv_of s) (ocd.mv_of o) ≡ true
    → plan_for gain offset config (scd.mv_of s) (ocd.mv_of o) ≡ refused (no 6 [])
mismatch_is gain offset config s o shunt h e =
    past_9 gain offset config _ _ shunt h ∙ out _ (refused_6 (choice _ _) (choice_only _ _) (choice_apart s o ∙ e))
