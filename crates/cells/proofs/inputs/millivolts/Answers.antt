-- `cells::inputs::millivolts` meets its contract: by the gain's bound each step's number is small, so that it fits and is read back as it is.
-- Assumes nothing.
use Rattle.std.proofs.Common.{◌≡◌, ℕ, ◌*◌, ◌≤◌, ℤ, pos, ◌+ℤ◌, ◌*ℤ◌, nat_abs, ap, arith, SFits, to_z, to_z-of_z, w8, w32}
use lib.Signed.{nat_abs-le}
use mir.Facts.{to_z_pos, sfits_widen}
use Rattle.numbers.specs.Numbers.{◌÷◌}
use Rattle.adc.specs.Conversion.{millivolts}
use Rattle.numbers.proofs.Signed.{sized, size_add, size_mul, size_div, quot_div, product≤}
use Rattle.cells.proofs.inputs.millivolts.Goals as goal

-- ---- the numbers on the way
module _ (reading gain : ℕ) (offset : ℤ) (word : reading ≤ 65535) (least : gain ≤ 396) (offset_fits : SFits w8 offset) where
  abbrev part : ℤ
  part = offset *ℤ pos 1000

  abbrev whole : ℤ
  whole = pos (reading * gain) +ℤ part

  up≤ : reading * gain ≤ 65535 * 396
  up≤ = product≤ 65535 396 word least

  reading_read : to_z w32 reading ≡ pos reading
  reading_read = to_z_pos w32 (omega arith)

  gain_read : to_z w32 gain ≡ pos gain
  gain_read = to_z_pos w32 (omega arith)

  up_fits : SFits w32 (pos (reading * gain))
  up_fits = sized (omega (arith, up≤))

  wide_fits : SFits w32 offset
  wide_fits = sfits_widen tt offset_fits

  part≤ : nat_abs part ≤ 128 * 1000
  part≤ =
      let p : nat_abs offset * 1000 ≤ 128 * 1000 = product≤ 128 1000 (nat_abs-le offset offset_fits.sfits) (omega arith) in
      omega (arith, size_mul offset (pos 1000))

  whole≤ : nat_abs whole ≤ 27000000
  whole≤ = omega (arith, up≤, part≤, size_add (pos (reading * gain)) part)

  part_fits : SFits w32 part
  part_fits = sized (omega (arith, part≤))

  whole_fits : SFits w32 whole
  whole_fits = sized (omega (arith, whole≤))

  quotient_fits : SFits w32 (whole ÷ 1000)
  quotient_fits = sized (omega (arith, whole≤, size_div whole 1000))

  quotient≤ : nat_abs (whole ÷ 1000) ≤ 27000
  quotient≤ = omega (arith, whole≤, size_div whole 1000)

pub returns : goal.returns
returns c =
    let r = c.be_u16-reading.result in
    let adc = c.args.adc in
    let word : r ≤ 65535 = omega arith in
    let least : adc.gain ≤ 396 = omega arith in
    let fits : SFits w8 adc.offset = record { sfits = omega arith } in
    simp (
      to_z-of_z fits,
      to_z-of_z (wide_fits r adc.gain adc.offset word least fits),
      reading_read r adc.gain adc.offset word least fits,
      gain_read r adc.gain adc.offset word least fits,
      to_z-of_z (up_fits r adc.gain adc.offset word least fits),
      to_z-of_z (part_fits r adc.gain adc.offset word least fits),
      to_z-of_z (whole_fits r adc.gain adc.offset word least fits),
      quot_div,
      to_z-of_z (quotient_fits r adc.gain adc.offset word least fits),
    )
    (ap (millivolts adc.gain adc.offset) c.be_u16-reading.ensures, quotient≤ r adc.gain adc.offset word least fits)
