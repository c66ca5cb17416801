-- `adc::transfer::AdcTransferFunction::asked_reading` meets its contract: the difference is under 2^32, so that a thousand times it fits.
-- Assumes nothing.
use Rattle.std.proofs.Common.{◌≡◌, ℕ, ◌≤◌, ℤ, pos, negsuc, refl, ◌-ℤ◌, ◌*ℤ◌, nat_abs, ap, ◌∙◌, arith, rules, w8, w32, w64, SFits, to_z, to_z-of_z, ne_eqb}
use lib.Signed.{nat_abs-le}
use Rattle.std.specs.Int.{int_div_euclid}
use Rattle.numbers.specs.Numbers.{◌÷↓◌}
use mir.Facts.{sfits_widen, to_z_pos}
use Rattle.numbers.proofs.Signed.{sized, size_sub, size_mul, read_back}
use Rattle.refusals.specs.Refusal.{value}
use Rattle.adc.proofs.transfer.AdcTransferFunction.asked_reading.Goals as goal

module _ (asked offset : ℤ) (asked_fits : SFits w32 asked) (offset_fits : SFits w8 offset) where
  over_least : nat_abs (asked -ℤ offset) ≤ 2147483777
  over_least =
      omega (arith, nat_abs-le asked asked_fits.sfits, nat_abs-le offset offset_fits.sfits, size_sub asked offset)

  over_fits : SFits w64 (asked -ℤ offset)
  over_fits = sized (omega (arith, over_least))

  scaled_fits : SFits w64 ((asked -ℤ offset) *ℤ pos 1000)
  scaled_fits = sized (omega (arith, over_least, size_mul (asked -ℤ offset) (pos 1000)))

-- division by a positive number, as the code has it
rounded : (z : ℤ) (d : ℕ) → int_div_euclid z (pos d) ≡ z ÷↓ d
rounded (pos n) d = refl
rounded (negsuc n) d = refl

pub returns : goal.returns
returns c =
    let asked = c.args.asked.0 in
    let offset = c.args.self.offset in
    let asked_fits : SFits w32 c.args.asked.0 = search rules in
    let offset_fits : SFits w8 c.args.self.offset = search rules in
    let quotient_fits : SFits w64 c.div_euclid.result = search rules in
    let gain_read : to_z w64 c.args.self.gain ≡ pos c.args.self.gain = to_z_pos w64 (omega arith) in
    let quotient =
    simp (
      to_z-of_z asked_fits,
      to_z-of_z (sfits_widen {w' = w64} tt asked_fits),
      to_z-of_z offset_fits,
      to_z-of_z (sfits_widen {w' = w64} tt offset_fits),
      to_z-of_z (over_fits asked offset asked_fits offset_fits),
      to_z-of_z (scaled_fits asked offset asked_fits offset_fits),
      gain_read,
      rounded,
    )
    at c.div_euclid.ensures
    in
    simp (ne_eqb _ _ c.if-self-eq0.false) (ap value (read_back w64 _ quotient_fits.sfits ∙ quotient))
