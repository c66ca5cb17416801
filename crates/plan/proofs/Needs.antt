-- What an accepted plan needs: a shunt that is not refused, a gain that is not 0, and two voltages within what the trip registers can stand for.
-- Assumes nothing.
use mathlib.Core.Path.{◌≡◌, refl}
use mathlib.Core.Bool.{Bool, true, false, cond}
use Prim.Native.Nat.{ℕ}
use lib.Dec.{eqb}
use lib.IntN.{ℤ}
use Rattle.refusals.specs.Refusal.{Answer, value, refused, Refusal, refused_if}
use Rattle.plan.specs.Plan.{Planned, plan_for}
use Rattle.plan.specs.Steps.{bad_shunt, shunt_for}
use Rattle.plan.specs.Trips.{ov_limits, uv_limits, obtainable, obtainable_or, trip_code_for, within_for}
use Rattle.plan.specs.declared.Config.{Config}
use Rattle.plan.proofs.Accepted.{first}
use Rattle.refusals.proofs.Values.{refused_not}

-- a test by which a value was not refused did not hold
passed : {A : Type 0} (t : Bool) (n : ℕ) (y : Answer A) {a : A} → refused_if t n y ≡ value a → t ≡ false
passed true n y e = refused_not e
passed false n y e = refl

pub plan_needs : (gain : ℕ) (offset : ℤ) (config : Config) (scd ocd : ℕ) (p : Planned) → plan_for gain offset config scd ocd ≡ value p
    → (bad_shunt config.shunt.0 ≡ false) × (eqb gain 0 ≡ false)
unfolding plan_for shunt_for trip_code_for
plan_needs gain offset config scd ocd p e =
    let shunt = first (shunt_for config.shunt.0) _ e in
    let code = first (trip_code_for gain offset config.ov_threshold.0) _ shunt.1.1 in
    let reading = first _ _ code.1.0 in
    (passed (bad_shunt config.shunt.0) 12 _ shunt.1.0, passed (eqb gain 0) 9 _ reading.1.0)

-- a test that a value had to pass held
met : (t : Bool) (r : Refusal) {u : Unit {0}} → cond t (value tt) (refused r) ≡ value u → t ≡ true
met true r e = refl
met false r e = refused_not e

pub plan_within : (gain : ℕ) (offset : ℤ) (config : Config) (scd ocd : ℕ) {p : Planned} → plan_for gain offset config scd ocd ≡ value p
    → (obtainable config.ov_threshold.0 (ov_limits gain offset) ≡ true) × (obtainable config.uv_threshold.0 (uv_limits gain offset) ≡ true)
unfolding plan_for within_for obtainable_or
plan_within gain offset config scd ocd e =
    let shunt = first _ _ e in
    let ov_code = first _ _ shunt.1.1 in
    let uv_code = first _ _ ov_code.1.1 in
    let range = first _ _ uv_code.1.1 in
    let within = first _ _ range.1.1 in
    let ov = first _ _ within.1.0 in
    (met (obtainable _ (ov_limits gain offset)) _ ov.1.0, met (obtainable _ (uv_limits gain offset)) _ ov.1.1)
