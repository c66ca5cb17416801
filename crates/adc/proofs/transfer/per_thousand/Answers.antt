-- `adc::transfer::per_thousand` meets its contract. Each step's number is small, so that each fits and is read back as it is.
-- Assumes nothing.
use Rattle.std.proofs.Common.{◌≡◌, ◌*◌, ◌≤◌, ℤ, pos, ◌+ℤ◌, ◌*ℤ◌, nat_abs, mul-le-mul, arith, SFits, to_z, to_z-of_z, w32, w64}
use lib.Signed.{nat_abs-le}
use mir.Facts.{to_z_pos, sfits_widen}
use Rattle.numbers.specs.Numbers.{◌÷◌}
use Rattle.numbers.proofs.Signed.{signed, sized, size_add, size_mul, size_div, quot_div, read32}
use Rattle.adc.proofs.transfer.per_thousand.Goals as goal
use Rattle.adc.proofs.transfer.per_thousand.Goals.{Start}

abbrev part : Start → ℤ
part c = c.args.offset *ℤ pos c.args.by

abbrev whole : Start → ℤ
whole c = pos c.args.up +ℤ part c

part_least : (c : Start) → nat_abs (part c) ≤ 128 * 255000
part_least c =
    let p : nat_abs c.args.offset * c.args.by ≤ 128 * 255000 =
    mul-le-mul (nat_abs-le c.args.offset c.ranges.offset.sfits) c.requires.1 in
    omega (arith, size_mul c.args.offset (pos c.args.by))

whole_least : (c : Start) → nat_abs (whole c) ≤ 17300000000
whole_least c = omega (arith, part_least c, size_add (pos c.args.up) (part c))

up_read : (c : Start) → to_z w64 c.args.up ≡ pos c.args.up
up_read c = to_z_pos w64 (omega arith)

offset_fits : (c : Start) → SFits w64 c.args.offset
offset_fits c = sfits_widen tt c.ranges.offset

part_fits : (c : Start) → SFits w64 (part c)
part_fits c = sized (omega (arith, part_least c))

whole_fits : (c : Start) → SFits w64 (whole c)
whole_fits c = sized (omega (arith, whole_least c))

result_fits : (c : Start) → SFits w32 (whole c ÷ 1000)
result_fits c = sized (omega (arith, whole_least c, size_div (whole c) 1000))

quotient_fits : (c : Start) → SFits w64 (whole c ÷ 1000)
quotient_fits c = sfits_widen tt (result_fits c)

ruleset facts = (signed, up_read, part_fits, whole_fits, quotient_fits, result_fits)

pub overflow_cast-result-4 : goal.overflow_cast-result-4
overflow_cast-result-4 c =
    simp (
      to_z-of_z c.ranges.offset,
      to_z-of_z (offset_fits c),
      up_read c,
      read32 c.ranges.by,
      to_z-of_z (part_fits c),
      to_z-of_z (whole_fits c),
      quot_div,
      to_z-of_z (quotient_fits c),
    )
    (result_fits c)

pub returns : goal.returns
returns c = search facts
