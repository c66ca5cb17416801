-- A step is in the lower list or in the upper one, so that Unknown means in both.
-- Assumes nothing.
use mathlib.Core.Path.{◌≡◌, refl}
use mathlib.Core.Bool.{true, ◌||◌}
use Rattle.laws.proofs.Variants.{by_variants}
use Rattle.protection.specs.Ranges.{is_in}
use Rattle.protection.specs.Scd as scd
use Rattle.protection.specs.Ocd as ocd
use Rattle.protection.specs.Steps.{scd_lower, scd_upper, ocd_lower, ocd_upper}
use Rattle.protection.specs.declared.scd.SCDThreshold.{SCDThreshold}
use Rattle.protection.specs.declared.ocd.OCDThreshold.{OCDThreshold}
use Rattle.protection.specs.contracts.scd.SCDThreshold as scd-steps
use Rattle.protection.specs.contracts.ocd.OCDThreshold as ocd-steps

pub scd_in : (t : SCDThreshold) → is_in (scd.mv_of t) scd_lower || is_in (scd.mv_of t) scd_upper ≡ true
scd_in = by_variants scd-steps.enum (λ t. is_in (scd.mv_of t) scd_lower || is_in (scd.mv_of t) scd_upper) (λ _. true) refl

pub ocd_in : (t : OCDThreshold) → is_in (ocd.mv_of t) ocd_lower || is_in (ocd.mv_of t) ocd_upper ≡ true
ocd_in = by_variants ocd-steps.enum (λ t. is_in (ocd.mv_of t) ocd_lower || is_in (ocd.mv_of t) ocd_upper) (λ _. true) refl
