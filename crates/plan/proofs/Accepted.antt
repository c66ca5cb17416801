-- What an accepted plan is made of.
-- Assumes nothing.
use mathlib.Core.Path.{◌≡◌, refl, ◌∙◌}
use mathlib.Core.Bool.{Bool, true, false}
use mathlib.Core.List.{List, [], ◌∷◌, ◌++◌}
use Prim.Native.Nat.{ℕ, ◌*◌}
use lib.Dec.{eqb}
use lib.IntN.{ℤ}
use Rattle.refusals.specs.Refusal.{Answer, value, refused, refused_if}
use Rattle.protection.specs.Ranges.{code_in, code_for}
use Rattle.protection.specs.Steps.{scd_lower, scd_upper, ocd_lower, ocd_upper}
use Rattle.protection.specs.declared.range.OCDSCDRange.{OCDSCDRange}
use Rattle.protection.specs.declared.range.OCDSCDRange.TheVariants as R
use Rattle.adc.specs.Trips.{reading_of, trip_code}
use Rattle.plan.specs.Fields.{of_range}
use Rattle.plan.specs.Order.{◌and_then◌}
use Rattle.plan.specs.Plan.{Planned, values_for, set_for, plan_for}
use Rattle.plan.specs.Registers.{protect_of, protect_for}
use Rattle.plan.specs.Trips.{trip_code_for}
use Rattle.plan.specs.declared.Config.{Config}
use Rattle.plan.proofs.After.{choice}
use Rattle.refusals.proofs.Values.{refused_not, same_value}

-- a chain of steps that has a value has one at its first step, and goes on from it
pub first : {A B : Type 0} (a : Answer A) (next : A → Answer B) {b : B}
    → a and_then next ≡ value b → (x : A) × ((a ≡ value x) × (next x ≡ value b))
unfolding ◌and_then◌
first (value x) next e = (x, (refl, e))
first (refused r) next e = refused_not e

code_is : (gain : ℕ) (offset asked : ℤ) {n : ℕ} → trip_code_for gain offset asked ≡ value n → trip_code (reading_of gain offset asked) ≡ n
unfolding trip_code_for ◌and_then◌
code_is gain offset asked {n} e = by_test (eqb gain 0) e
  where
    by_test :
        (t : Bool)
        → refused_if t 9 (value (reading_of gain offset asked)) and_then (λ reading. value (trip_code reading)) ≡ value n
        → trip_code (reading_of gain offset asked) ≡ n
    by_test true e = refused_not e
    by_test false e = same_value e

-- the three PROTECT bytes by the range used
abbrev pub protect_in : Config → ℕ → ℕ → OCDSCDRange → List ℕ
protect_in config scd ocd range =
    protect_of config (of_range range 0 1 * 128) (code_in (of_range range scd_lower scd_upper) scd) (code_in (of_range range ocd_lower ocd_upper) ocd)

protect_is :
    (config : Config) (scd ocd : ℕ) (range : OCDSCDRange) {p : List ℕ}
    → protect_for config scd ocd range ≡ value p
    → protect_in config scd ocd range ≡ p
unfolding protect_for code_for ◌and_then◌
protect_is config scd ocd R.Lower e = same_value e
protect_is config scd ocd R.Upper e = same_value e
protect_is config scd ocd R.Unknown e = refused_not e

-- an accepted plan, by the range used
abbrev pub planned_in : ℕ → ℤ → Config → ℕ → ℕ → OCDSCDRange → Planned
planned_in gain offset config scd ocd range =
    let ov_code = trip_code (reading_of gain offset config.ov_threshold.0) in
    let uv_code = trip_code (reading_of gain offset config.uv_threshold.0) in
    record {
      values = values_for gain offset config.shunt.0 scd ocd range ov_code uv_code;
      regs = protect_in config scd ocd range ++ (ov_code ∷ uv_code ∷ 0x19 ∷ []);
    }

pub accepted :
    (gain : ℕ) (offset : ℤ) (config : Config) (scd ocd : ℕ) {p : Planned}
    → plan_for gain offset config scd ocd ≡ value p
    → (range : OCDSCDRange) × ((choice scd ocd ≡ value range) × (planned_in gain offset config scd ocd range ≡ p))
unfolding plan_for set_for
accepted gain offset config scd ocd {p} e =
    let shunt = first _ _ e in
    let ov = first _ _ shunt.1.1 in
    let uv = first _ _ ov.1.1 in
    let range = first _ _ uv.1.1 in
    let within = first _ _ range.1.1 in
    let protect = first _ _ within.1.1 in
    let protect-path = protect_is config scd ocd range.0 protect.1.0 in
    let ov-path = code_is gain offset config.ov_threshold.0 ov.1.0 in
    let uv-path = code_is gain offset config.uv_threshold.0 uv.1.0 in (
      range.0,
      (
        range.1.0,
        (λ i.
            record {
              values = values_for gain offset config.shunt.0 scd ocd range.0 (ov-path i) (uv-path i);
              regs = protect-path i ++ (ov-path i ∷ uv-path i ∷ 0x19 ∷ []);
            })
            ∙ same_value protect.1.1,
      ),
    )
