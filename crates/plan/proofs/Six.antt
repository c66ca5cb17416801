-- An accepted plan has six bytes, and they are bytes, whatever the steps.
-- Assumes nothing.
use mathlib.Core.Path.{◌≡◌, refl, sym, ap, subst}
use mathlib.Core.Bool.{Bool, true, false, cond}
use mathlib.Core.List.{List, [], ◌∷◌}
use Prim.Native.Nat.{ℕ, suc, ◌+◌, ◌≤◌, ◌<◌}
use native.Mathlib.Omega.{arith}
use lib.Dec.{eqb}
use lib.IntN.{ℤ}
use lib.ListN.{length}
use Rattle.numbers.specs.Numbers.{◌÷↓◌}
use Rattle.numbers.proofs.Signed.{rest<}
use Rattle.refusals.specs.Refusal.{value}
use Rattle.check_byte.specs.CheckByte.{Bytes}
use Rattle.protection.specs.Ranges.{place_from, code_in}
use Rattle.protection.specs.Steps.{scd_lower, scd_upper, ocd_lower, ocd_upper}
use Rattle.protection.specs.declared.range.OCDSCDRange.{OCDSCDRange}
use Rattle.protection.specs.declared.range.OCDSCDRange.TheVariants as R
use Rattle.adc.specs.Trips.{reading_of, trip_code}
use Rattle.plan.specs.Fields.{of_range}
use Rattle.plan.specs.Plan.{Planned, plan_for}
use Rattle.plan.specs.declared.Config.{Config}
use Rattle.plan.proofs.Accepted.{planned_in, accepted}
use Rattle.plan.proofs.Fits.{scd_delay<, ocd_delay<, uv_delay<, ov_delay<, range<}

place_few : (at : ℕ) (xs : List ℕ) (n : ℕ) → place_from at xs n ≤ at + length xs
place_few at [] n = omega arith
place_few at (x ∷ xs) n = by (eqb x n) (place_few (suc at) xs n)
  where
    by : (t : Bool) → place_from (suc at) xs n ≤ suc at + length xs → cond t at (place_from (suc at) xs n) ≤ at + suc (length xs)
    by true h = omega arith
    by false h = omega arith

code_few : (range : OCDSCDRange) (lower upper : List ℕ) (n : ℕ) → length lower ≡ length upper → code_in (of_range range lower upper) n ≤ length lower
code_few R.Lower lower upper n same = omega (arith, place_few 0 lower n)
code_few R.Upper lower upper n same = omega (arith, place_few 0 upper n)
code_few R.Unknown lower upper n same = omega (arith, place_few 0 lower n)

module _ (gain : ℕ) (offset : ℤ) (config : Config) (scd ocd : ℕ) where
  in_bytes : (range : OCDSCDRange) → Bytes (planned_in gain offset config scd ocd range).regs
  in_bytes range =
      let r = range< range in
      let sd = scd_delay< config.scd_delay in
      let sk = code_few range scd_lower scd_upper scd refl in
      let od = ocd_delay< config.ocd_delay in
      let ok = code_few range ocd_lower ocd_upper ocd refl in
      let u = uv_delay< config.uv_delay in
      let o = ov_delay< config.ov_delay in
      let trip : (mv : ℤ) → trip_code (reading_of gain offset mv) < 256 = λ mv. rest< (reading_of gain offset mv ÷↓ 16) 256 (omega arith) in
      (omega arith, (omega arith, (omega arith, (trip config.ov_threshold.0, (trip config.uv_threshold.0, (omega arith, tt))))))

  module _ (plan : Planned) (e : plan_for gain offset config scd ocd ≡ value plan) where
    pub plan_bytes : Bytes plan.regs
    plan_bytes =
        let made = accepted gain offset config scd ocd e in
        subst (λ (p : Planned). Bytes p.regs) made.1.1 (in_bytes made.0)

    pub plan_six : length plan.regs ≡ 6
    plan_six = ap (λ (p : Planned). length p.regs) (sym (accepted gain offset config scd ocd e).1.1)
