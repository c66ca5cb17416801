-- `plan::six_bytes::protect_bytes` meets its contract: each code fits its field. Assumes nothing.
use Rattle.std.proofs.Common.{sym, arith}
use Rattle.protection.specs.Scd as scd
use Rattle.protection.specs.Ocd as ocd
use Rattle.protection.specs.Steps.{scd_lower, scd_upper, ocd_lower, ocd_upper}
use Rattle.plan.proofs.Fits.{range<, scd_code<, ocd_code<, range_bit_is, step_code_is}
use Rattle.plan.proofs.six_bytes.protect_bytes.Goals as goal

pub with_delays-requires : goal.with_delays-requires
with_delays-requires c =
    let range = c.args.range in
    let steps = c.args.steps in
    let bit = range_bit_is range (sym c.in_ok-range_bits.ensures) in
    let bit_few = range< range in
    let scd_is = step_code_is scd_lower scd_upper range (scd.mv_of steps.scd) (sym c.in_ok-scd_bits.ensures) in
    let scd_few = scd_code< range steps.scd in
    let ocd_is = step_code_is ocd_lower ocd_upper range (ocd.mv_of steps.ocd) (sym c.in_ok-ocd_bits.ensures) in
    let ocd_few = ocd_code< range steps.ocd in
    (omega arith, omega arith, omega arith)
