-- The range chosen is the lower or the upper: no plan is refused with 20, and none that is accepted reports Unknown.
-- Assumes nothing.
use mathlib.Core.Path.{◌≡◌, refl, subst}
use mathlib.Core.Bool.{Bool, true, false, cond, ◌&&◌}
use mathlib.Core.List.{[]}
use Prim.Native.Nat.{ℕ}
use lib.IntN.{ℤ}
use Rattle.refusals.specs.Refusal.{Answer, value, refused, no}
use Rattle.protection.specs.Ranges.{has_lower, has_upper, range_for, code_for}
use Rattle.protection.specs.Steps.{scd_lower, scd_upper, ocd_lower, ocd_upper}
use Rattle.protection.specs.declared.range.OCDSCDRange.{OCDSCDRange}
use Rattle.protection.specs.declared.range.OCDSCDRange.TheVariants as R
use Rattle.plan.specs.Exactly.{is_no}
use Rattle.plan.specs.Order.{◌and_then◌}
use Rattle.plan.specs.Plan.{Planned, set_for, plan_for}
use Rattle.plan.specs.Registers.{protect_for}
use Rattle.plan.specs.declared.Config.{Config}
use Rattle.plan.proofs.Accepted.{accepted}
use Rattle.plan.proofs.After.{choice, choice_only, only_not}
use Rattle.plan.proofs.Only.{shunt_only, code_only}
use Rattle.refusals.proofs.Values.{same_value, refused_not}
use Rattle.plan.proofs.WithinNumbers.{within_other}

given_not :
    {A B : Type 0} (n : ℕ) (a : Answer A) (next : A → Answer B)
    → is_no n a ≡ false
    → ((x : A) → a ≡ value x → is_no n (next x) ≡ false)
    → is_no n (a and_then next) ≡ false
unfolding ◌and_then◌
given_not n (value x) next here later = later x refl
given_not n (refused r) next here later = here

-- what holds of both ranges holds of the one chosen
module _ (P : OCDSCDRange → Type 0) (lower : P R.Lower) (upper : P R.Upper) (range : OCDSCDRange) where
  by_tests : (l u : Bool) → cond l (value R.Lower) (cond u (value R.Upper) (refused (no 6 []))) ≡ value range → P range
  by_tests true u e = subst P (same_value e) lower
  by_tests false true e = subst P (same_value e) upper
  by_tests false false e = refused_not e

  chosen : (scd ocd : ℕ) → choice scd ocd ≡ value range → P range
  chosen scd ocd e =
      let s = range_for scd_lower scd_upper scd in
      let o = range_for ocd_lower ocd_upper ocd in
      by_tests (has_lower s && has_lower o) (has_upper s && has_upper o) e

module _ (gain : ℕ) (offset : ℤ) (config : Config) (scd ocd : ℕ) where
  abbrev Not20 : ℕ → ℕ → OCDSCDRange → Type 0
  Not20 ov_code uv_code range = is_no 20 (set_for gain offset config scd ocd range ov_code uv_code) ≡ false

  set_not : (range : OCDSCDRange) → choice scd ocd ≡ value range → (ov_code uv_code : ℕ) → Not20 ov_code uv_code range
  unfolding set_for protect_for code_for ◌and_then◌
  set_not range e ov_code uv_code = chosen (Not20 ov_code uv_code) refl refl range scd ocd e

  pub never_20 : is_no 20 (plan_for gain offset config scd ocd) ≡ false
  unfolding plan_for
  never_20 =
      given_not 20 _ _ (only_not 12 20 refl _ (shunt_only config.shunt.0))
      (λ _ _. given_not 20 _ _ (only_not 9 20 refl _ (code_only gain offset config.ov_threshold.0))
      (λ ov_code _. given_not 20 _ _ (only_not 9 20 refl _ (code_only gain offset config.uv_threshold.0))
      (λ uv_code _. given_not 20 _ _ (only_not 6 20 refl _ (choice_only scd ocd))
      (λ range is. given_not 20 _ _ (within_other gain offset config.ov_threshold.0 config.uv_threshold.0 20 refl refl)
      (λ _ _. set_not range is ov_code uv_code)))))

  -- what holds of both ranges holds of the one that an accepted plan reports
  pub in_a_range : (P : OCDSCDRange → Type 0) → P R.Lower → P R.Upper
      → {p : Planned} → plan_for gain offset config scd ocd ≡ value p
      → P p.values.range
  in_a_range P lower upper e =
      let plan = accepted gain offset config scd ocd e in
      subst (λ (p : Planned). P p.values.range) plan.1.1 (chosen P lower upper plan.0 scd ocd plan.1.0)
