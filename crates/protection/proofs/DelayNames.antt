-- The delays' names are the datasheet's times: a delay's code points, in its list, to the time in its name.
-- Assumes nothing.
use mathlib.Core.Path.{◌≡◌, refl}
use lib.ListN.{get_or}
use Rattle.laws.proofs.Variants.{by_variants}
use Rattle.protection.specs.Delays.{
  scd_code,
  scd_times,
  scd_named,
  ocd_code,
  ocd_times,
  ocd_named,
  uv_named,
  uv_seconds,
  ov_named,
  ov_seconds,
}
use Rattle.protection.specs.declared.delays.SCDDelay.{SCDDelay}
use Rattle.protection.specs.declared.delays.OCDDelay.{OCDDelay}
use Rattle.protection.specs.declared.delays.UVDelay.{UVDelay}
use Rattle.protection.specs.declared.delays.OVDelay.{OVDelay}
use Rattle.protection.specs.contracts.delays.SCDDelay as scd
use Rattle.protection.specs.contracts.delays.OCDDelay as ocd
use Rattle.protection.specs.contracts.delays.UVDelay as uv
use Rattle.protection.specs.contracts.delays.OVDelay as ov

pub scd_names : (d : SCDDelay) → get_or scd_times (scd_code d) 0 ≡ scd_named d
scd_names = by_variants scd.enum (λ d. get_or scd_times (scd_code d) 0) scd_named refl

pub ocd_names : (d : OCDDelay) → get_or ocd_times (ocd_code d) 0 ≡ ocd_named d
ocd_names = by_variants ocd.enum (λ d. get_or ocd_times (ocd_code d) 0) ocd_named refl

-- so `seconds` answers what the name says
pub uv_names : (d : UVDelay) → uv_seconds d ≡ uv_named d
uv_names = by_variants uv.enum uv_seconds uv_named refl

pub ov_names : (d : OVDelay) → ov_seconds d ≡ ov_named d
ov_names = by_variants ov.enum ov_seconds ov_named refl
