-- Where neither 12 nor 9 applies: the plan is refused with 8 exactly when the steps share a range (else it is 6) and the
-- overvoltage asked is outside what OV_TRIP can stand for, and with 7 exactly when that is within and the undervoltage asked is
-- outside what UV_TRIP can stand for. The figures are those limits, the millivolts at codes 00 and FF.
-- Assumes nothing.
use mathlib.Core.Path.{◌≡◌, refl, ap, ◌∙◌}
use mathlib.Core.Bool.{Bool, true, false, not, ◌&&◌}
use Prim.Native.Nat.{ℕ, ◌<◌}
use lib.IntN.{ℤ}
use Rattle.refusals.specs.Refusal.{Answer, refused, no}
use Rattle.protection.specs.Scd as scd
use Rattle.protection.specs.Ocd as ocd
use Rattle.protection.specs.declared.scd.SCDThreshold.{SCDThreshold}
use Rattle.protection.specs.declared.ocd.OCDThreshold.{OCDThreshold}
use Rattle.plan.specs.Exactly.{is_no, apart}
use Rattle.plan.specs.Plan.{Planned, plan_for}
use Rattle.plan.specs.Steps.{bad_shunt}
use Rattle.plan.specs.Trips.{ov_limits, uv_limits, figures, obtainable, within_for}
use Rattle.plan.specs.declared.Config.{Config}
use Rattle.plan.proofs.After.{choice, choice_only, rest, past_9, rest_number, after_6, shares}
use Rattle.plan.proofs.Obtained.{obtained, unobtained}
use Rattle.plan.proofs.Order.{past, out}
use Rattle.plan.proofs.Apart.{choice_apart}
use Rattle.plan.proofs.WithinNumbers.{within_7, within_8}

module _
    (gain : ℕ)
    (offset : ℤ)
    (config : Config)
    (s : SCDThreshold)
    (o : OCDThreshold)
    (shunt : bad_shunt config.shunt.0 ≡ false)
    (device : 0 < gain)
  where
    abbrev scd_mv : ℕ
    scd_mv = scd.mv_of s

    abbrev ocd_mv : ℕ
    ocd_mv = ocd.mv_of o

    abbrev ov : Bool
    ov = obtainable config.ov_threshold.0 (ov_limits gain offset)

    abbrev uv : Bool
    uv = obtainable config.uv_threshold.0 (uv_limits gain offset)

    pub ov_exactly : is_no 8 (plan_for gain offset config scd_mv ocd_mv) ≡ not (apart scd_mv ocd_mv) && not ov
    ov_exactly =
        ap (λ (a : Answer Planned). is_no 8 a) (past_9 gain offset config scd_mv ocd_mv shunt device)
        ∙ after_6 8 (choice scd_mv ocd_mv) (rest gain offset config scd_mv ocd_mv) (not ov) refl (choice_only scd_mv ocd_mv)
        (λ range. rest_number 8 refl gain offset config scd_mv ocd_mv range ∙ within_8 gain offset _ _)
        ∙ ap (λ (t : Bool). not t && not ov) (choice_apart s o)

    pub uv_exactly : is_no 7 (plan_for gain offset config scd_mv ocd_mv) ≡ not (apart scd_mv ocd_mv) && (ov && not uv)
    uv_exactly =
        ap (λ (a : Answer Planned). is_no 7 a) (past_9 gain offset config scd_mv ocd_mv shunt device)
        ∙ after_6 7 (choice scd_mv ocd_mv) (rest gain offset config scd_mv ocd_mv) (ov && not uv) refl (choice_only scd_mv ocd_mv)
        (λ range. rest_number 7 refl gain offset config scd_mv ocd_mv range ∙ within_7 gain offset _ _)
        ∙ ap (λ (t : Bool). not t && (ov && not uv)) (choice_apart s o)

    pub ov_figures : apart scd_mv ocd_mv ≡ false → ov ≡ false
        → plan_for gain offset config scd_mv ocd_mv ≡ refused (no 8 (figures (ov_limits gain offset)))
    unfolding within_for
    ov_figures together outside =
        let range = shares (choice scd_mv ocd_mv) (choice_only scd_mv ocd_mv) (choice_apart s o ∙ together) in
        past_9 gain offset config _ _ shunt device ∙ past _ _ range.1 ∙ out _ (out _ (unobtained 8 _ refl outside))

    pub uv_figures :
        apart scd_mv ocd_mv ≡ false
        → ov ≡ true
        → uv ≡ false
        → plan_for gain offset config scd_mv ocd_mv ≡ refused (no 7 (figures (uv_limits gain offset)))
    unfolding within_for
    uv_figures together within outside =
        let range = shares (choice scd_mv ocd_mv) (choice_only scd_mv ocd_mv) (choice_apart s o ∙ together) in
        past_9 gain offset config _ _ shunt device
        ∙ past _ _ range.1
        ∙ out _ (past _ _ (obtained 8 _ refl within) ∙ unobtained 7 _ refl outside)
