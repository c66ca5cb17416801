-- The fields of the bytes that a plan is made of, by arithmetic: none overlaps another.
-- Assumes nothing.
use mathlib.Core.Path.{◌≡◌}
use mathlib.Core.List.{[], ◌∷◌}
use Prim.Native.Nat.{ℕ, ◌+◌, ◌*◌, ◌<◌}
use native.Mathlib.Omega.{arith}
use lib.IntN.{ℤ}
use Rattle.numbers.specs.Numbers.{◌÷↓◌}
use Rattle.numbers.proofs.Signed.{rest<}
use Rattle.protection.specs.Scd as scd
use Rattle.protection.specs.Ocd as ocd
use Rattle.protection.specs.declared.range.OCDSCDRange.{OCDSCDRange}
use Rattle.protection.specs.declared.scd.SCDThreshold.{SCDThreshold}
use Rattle.protection.specs.declared.ocd.OCDThreshold.{OCDThreshold}
use Rattle.adc.specs.Registers.{bit_field}
use Rattle.adc.specs.Trips.{reading_of, trip_code}
use Rattle.plan.specs.Fields.{read_back, fields_of}
use Rattle.plan.specs.declared.Config.{Config}
use Rattle.plan.proofs.Accepted.{planned_in}
use Rattle.plan.proofs.Fits.{scd_delay<, ocd_delay<, uv_delay<, ov_delay<, range<, scd_code<, ocd_code<}

-- PROTECT1, of a range bit r, a delay d and a code k
module _ (r d k : ℕ) (r< : r < 2) (d< : d < 4) (k< : k < 8) where
  rsns : bit_field 7 7 (r * 128 + d * 8 + k) ≡ r
  rsns = omega arith

  scd_reserved : bit_field 6 5 (r * 128 + d * 8 + k) ≡ 0
  scd_reserved = omega arith

  scd_delay_is : bit_field 4 3 (r * 128 + d * 8 + k) ≡ d
  scd_delay_is = omega arith

  scd_thresh_is : bit_field 2 0 (r * 128 + d * 8 + k) ≡ k
  scd_thresh_is = omega arith

-- PROTECT2, of a delay d and a code k
module _ (d k : ℕ) (d< : d < 8) (k< : k < 16) where
  ocd_reserved : bit_field 7 7 (d * 16 + k) ≡ 0
  ocd_reserved = omega arith

  ocd_delay_is : bit_field 6 4 (d * 16 + k) ≡ d
  ocd_delay_is = omega arith

  ocd_thresh_is : bit_field 3 0 (d * 16 + k) ≡ k
  ocd_thresh_is = omega arith

-- PROTECT3, of the delays u and o
module _ (u o : ℕ) (u< : u < 4) (o< : o < 4) where
  uv_delay_is : bit_field 7 6 (u * 64 + o * 16) ≡ u
  uv_delay_is = omega arith

  ov_delay_is : bit_field 5 4 (u * 64 + o * 16) ≡ o
  ov_delay_is = omega arith

  voltage_reserved : bit_field 3 0 (u * 64 + o * 16) ≡ 0
  voltage_reserved = omega arith

whole : (n : ℕ) → n < 256 → bit_field 7 0 n ≡ n
whole n h = omega arith

trip< : (z : ℤ) → trip_code z < 256
trip< z = rest< (z ÷↓ 16) 256 (omega arith)

module _ (gain : ℕ) (offset : ℤ) (config : Config) (s : SCDThreshold) (o : OCDThreshold) where
  pub in_range :
      (range : OCDSCDRange)
      → read_back (planned_in gain offset config (scd.mv_of s) (ocd.mv_of o) range).regs
      ≡ fields_of gain offset config (scd.mv_of s) (ocd.mv_of o) range
  in_range range =
      let r< = range< range in
      let sd< = scd_delay< config.scd_delay in
      let sk< = scd_code< range s in
      let od< = ocd_delay< config.ocd_delay in
      let ok< = ocd_code< range o in
      let u< = uv_delay< config.uv_delay in
      let o< = ov_delay< config.ov_delay in
      λ i.
      record {
        rsns = rsns _ _ _ r< sd< sk< i;
        scd_delay = scd_delay_is _ _ _ r< sd< sk< i;
        scd_thresh = scd_thresh_is _ _ _ r< sd< sk< i;
        ocd_delay = ocd_delay_is _ _ od< ok< i;
        ocd_thresh = ocd_thresh_is _ _ od< ok< i;
        uv_delay = uv_delay_is _ _ u< o< i;
        ov_delay = ov_delay_is _ _ u< o< i;
        ov_trip = whole _ (trip< (reading_of gain offset config.ov_threshold.0)) i;
        uv_trip = whole _ (trip< (reading_of gain offset config.uv_threshold.0)) i;
        cc_cfg = 0x19;
        reserved = scd_reserved _ _ _ r< sd< sk< i ∷ ocd_reserved _ _ od< ok< i ∷ voltage_reserved _ _ u< o< i ∷ [];
      }
