-- Each delay and each step's code fits its field, in the range used.
-- Assumes nothing.
use mathlib.Core.Path.{◌≡◌}
use mathlib.Core.Bool.{Bool}
use mathlib.Core.List.{List}
use Prim.Native.Nat.{ℕ, ◌*◌, ◌<◌}
use native.Mathlib.Omega.{arith}
use lib.Dec.{T, ltb, ltb→lt}
use denote.Enum.Declared.{Record}
use Rattle.laws.proofs.Variants.{Each, each}
use Rattle.refusals.specs.Refusal.{value}
use Rattle.protection.specs.Delays.{scd_code, ocd_code, uv_code, ov_code}
use Rattle.protection.specs.Ranges.{range_bits, code_in, code_for}
use Rattle.protection.specs.Scd as scd
use Rattle.protection.specs.Ocd as ocd
use Rattle.protection.specs.Steps.{scd_lower, scd_upper, ocd_lower, ocd_upper}
use Rattle.protection.specs.declared.delays.SCDDelay.{SCDDelay}
use Rattle.protection.specs.declared.delays.OCDDelay.{OCDDelay}
use Rattle.protection.specs.declared.delays.UVDelay.{UVDelay}
use Rattle.protection.specs.declared.delays.OVDelay.{OVDelay}
use Rattle.protection.specs.declared.range.OCDSCDRange.{OCDSCDRange}
use Rattle.protection.specs.declared.range.OCDSCDRange.TheVariants as R
use Rattle.protection.specs.declared.scd.SCDThreshold.{SCDThreshold}
use Rattle.protection.specs.declared.ocd.OCDThreshold.{OCDThreshold}
use Rattle.protection.specs.contracts.delays.SCDDelay as scd-delays
use Rattle.protection.specs.contracts.delays.OCDDelay as ocd-delays
use Rattle.protection.specs.contracts.delays.UVDelay as uv-delays
use Rattle.protection.specs.contracts.delays.OVDelay as ov-delays
use Rattle.protection.specs.contracts.scd.SCDThreshold as scd-steps
use Rattle.protection.specs.contracts.ocd.OCDThreshold as ocd-steps
use Rattle.plan.specs.Fields.{of_range}
use Rattle.refusals.proofs.Values.{refused_not, same_value}

fits : (enum : Record) (code : enum.D → ℕ) (m : ℕ) → Each enum (λ d. ltb (code d) m) → (d : enum.D) → code d < m
fits enum code m all d = ltb→lt (code d) m (each enum (λ d. ltb (code d) m) all d)

pub scd_delay< : (d : SCDDelay) → scd_code d < 4
scd_delay< = fits scd-delays.enum scd_code 4 tt

pub ocd_delay< : (d : OCDDelay) → ocd_code d < 8
ocd_delay< = fits ocd-delays.enum ocd_code 8 tt

pub uv_delay< : (d : UVDelay) → uv_code d < 4
uv_delay< = fits uv-delays.enum uv_code 4 tt

pub ov_delay< : (d : OVDelay) → ov_code d < 4
ov_delay< = fits ov-delays.enum ov_code 4 tt

pub range< : (range : OCDSCDRange) → of_range range 0 1 < 2
range< R.Lower = omega arith
range< R.Upper = omega arith
range< R.Unknown = omega arith

-- a test that each step passes in the lower list and in the upper one, it passes in the list of the range used
pub by_range :
    (test : List ℕ → ℕ → Bool) (enum : Record) (mv : enum.D → ℕ) (lower upper : List ℕ)
    → Each enum (λ step. test lower (mv step))
    → Each enum (λ step. test upper (mv step))
    → (range : OCDSCDRange) (step : enum.D)
    → T (test (of_range range lower upper) (mv step))
by_range test enum mv lower upper in-lower in-upper R.Lower = each enum (λ step. test lower (mv step)) in-lower
by_range test enum mv lower upper in-lower in-upper R.Upper = each enum (λ step. test upper (mv step)) in-upper
by_range test enum mv lower upper in-lower in-upper R.Unknown = each enum (λ step. test lower (mv step)) in-lower

pub scd_code< : (range : OCDSCDRange) (t : SCDThreshold) → code_in (of_range range scd_lower scd_upper) (scd.mv_of t) < 8
scd_code< range t = ltb→lt _ 8 (by_range (λ xs n. ltb (code_in xs n) 8) scd-steps.enum scd.mv_of scd_lower scd_upper tt tt range t)

pub ocd_code< : (range : OCDSCDRange) (t : OCDThreshold) → code_in (of_range range ocd_lower ocd_upper) (ocd.mv_of t) < 16
ocd_code< range t = ltb→lt _ 16 (by_range (λ xs n. ltb (code_in xs n) 16) ocd-steps.enum ocd.mv_of ocd_lower ocd_upper tt tt range t)

-- what an answer gives for a range is what the range picks
pub range_bit_is : (range : OCDSCDRange) {n : ℕ} → range_bits range ≡ value n → of_range range 0 1 * 128 ≡ n
range_bit_is R.Lower e = same_value e
range_bit_is R.Upper e = same_value e
range_bit_is R.Unknown e = refused_not e

pub step_code_is :
    (lower upper : List ℕ) (range : OCDSCDRange) (n : ℕ) {code : ℕ}
    → code_for lower upper range n ≡ value code
    → code_in (of_range range lower upper) n ≡ code
unfolding code_for
step_code_is lower upper R.Lower n e = same_value e
step_code_is lower upper R.Upper n e = same_value e
step_code_is lower upper R.Unknown n e = refused_not e
