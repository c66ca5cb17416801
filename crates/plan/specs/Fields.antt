-- The register table of 06 to 0B: the fields that the six bytes hold, read from them, and those of a configuration.
-- Assumes nothing.
use Rattle.std.specs.Prelude.{ℕ, List, [], ◌∷◌, get_or, ℤ}
use Rattle.adc.specs.Registers.{bit_field}
use Rattle.adc.specs.Trips.{reading_of, trip_code}
use Rattle.protection.specs.Delays.{scd_code, ocd_code, uv_code, ov_code}
use Rattle.protection.specs.Ranges.{code_in}
use Rattle.protection.specs.Steps.{scd_lower, scd_upper, ocd_lower, ocd_upper}
use Rattle.protection.specs.declared.range.OCDSCDRange.{OCDSCDRange}
use Rattle.protection.specs.declared.range.OCDSCDRange.TheVariants as R
use Rattle.plan.specs.declared.Config.{Config}

pub record Fields : Type 0 where
  pub rsns : ℕ
  pub scd_delay : ℕ
  pub scd_thresh : ℕ
  pub ocd_delay : ℕ
  pub ocd_thresh : ℕ
  pub uv_delay : ℕ
  pub ov_delay : ℕ
  pub ov_trip : ℕ
  pub uv_trip : ℕ
  pub cc_cfg : ℕ
  pub reserved : List ℕ

abbrev pub read_back : List ℕ → Fields
read_back regs =
    let b06 = get_or regs 0 0 in
    let b07 = get_or regs 1 0 in
    let b08 = get_or regs 2 0 in
    record {
      rsns = bit_field 7 7 b06;
      scd_delay = bit_field 4 3 b06;
      scd_thresh = bit_field 2 0 b06;
      ocd_delay = bit_field 6 4 b07;
      ocd_thresh = bit_field 3 0 b07;
      uv_delay = bit_field 7 6 b08;
      ov_delay = bit_field 5 4 b08;
      ov_trip = bit_field 7 0 (get_or regs 3 0);
      uv_trip = bit_field 7 0 (get_or regs 4 0);
      cc_cfg = bit_field 7 0 (get_or regs 5 0);
      reserved = bit_field 6 5 b06 ∷ bit_field 7 7 b07 ∷ bit_field 3 0 b08 ∷ [];
    }

-- what the range used picks of the lower's and the upper's; no plan uses Unknown
abbrev pub of_range : {A : Type 0} → OCDSCDRange → A → A → A
of_range R.Lower lower upper = lower
of_range R.Upper lower upper = upper
of_range R.Unknown lower upper = lower

-- a configuration's, two steps' in mV, and a range used: each code in its field, 0 in the reserved ones
abbrev pub fields_of : ℕ → ℤ → Config → ℕ → ℕ → OCDSCDRange → Fields
fields_of gain offset config scd ocd range = record {
  rsns = of_range range 0 1;
  scd_delay = scd_code config.scd_delay;
  scd_thresh = code_in (of_range range scd_lower scd_upper) scd;
  ocd_delay = ocd_code config.ocd_delay;
  ocd_thresh = code_in (of_range range ocd_lower ocd_upper) ocd;
  uv_delay = uv_code config.uv_delay;
  ov_delay = ov_code config.ov_delay;
  ov_trip = trip_code (reading_of gain offset config.ov_threshold.0);
  uv_trip = trip_code (reading_of gain offset config.uv_threshold.0);
  cc_cfg = 0x19;
  reserved = 0 ∷ 0 ∷ 0 ∷ [];
}
