-- PROTECT1 (06), PROTECT2 (07) and PROTECT3 (08) for a configuration, two steps in mV, and the range used.
-- Assumes nothing.
use Rattle.std.specs.Prelude.{ℕ, ◌+◌, List, [], ◌∷◌}
use Rattle.refusals.specs.Refusal.{Answer, value}
use Rattle.protection.specs.Delays.{scd_bits, ocd_bits, uv_bits, ov_bits}
use Rattle.protection.specs.Ranges.{range_bits, code_for}
use Rattle.protection.specs.Steps.{scd_lower, scd_upper, ocd_lower, ocd_upper}
use Rattle.protection.specs.declared.range.OCDSCDRange.{OCDSCDRange}
use Rattle.plan.specs.Order.{◌and_then◌}
use Rattle.plan.specs.declared.Config.{Config}

-- range in bit 7 of 06, the SCD delay in 4-3, the SCD code below it; the OCD delay in 6-4 of 07, the OCD code below it;
-- the UV delay in 7-6 of 08, the OV delay in 5-4
abbrev pub protect_of : Config → ℕ → ℕ → ℕ → List ℕ
protect_of config rangeBit scd_code ocd_code =
    (rangeBit + scd_bits config.scd_delay + scd_code) ∷
    (ocd_bits config.ocd_delay + ocd_code) ∷
    (uv_bits config.uv_delay + ov_bits config.ov_delay) ∷
    []

-- each code from the list of the range used; range Unknown is 20
unfoldable pub protect_for : Config → ℕ → ℕ → OCDSCDRange → Answer (List ℕ)
protect_for config scd ocd range =
    range_bits range and_then λ rangeBit.
    code_for scd_lower scd_upper range scd and_then λ scd_code.
    code_for ocd_lower ocd_upper range ocd and_then λ ocd_code.
    value (protect_of config rangeBit scd_code ocd_code)
