-- The trip points of an accepted plan, on every device. The asked reading, that of the asked voltage rounded down, is in the
-- register's span, and the reading at which the chip trips by the code written is the asked one with its low four bits 8 (OV) or
-- 0 (UV). The one exception is `uv_wraps`: the limits are whole millivolts, so that an undervoltage asked at the lower limit can
-- have a reading of up to three below 1000 hex, which gets the code FF. The thresholds reported are the millivolts at the trip
-- readings of the codes written.
-- Assumes nothing.
use mathlib.Core.Path.{◌≡◌, refl, ap, sym, ◌∙◌}
use mathlib.Core.Bool.{true}
use Prim.Native.Nat.{ℕ, ◌+◌, ◌*◌, ◌/◌, ◌≤◌, ◌<◌}
use native.Mathlib.Omega.{arith}
use lib.IntN.{ℤ, pos}
use lib.Signed.{mag}
use Rattle.refusals.specs.Refusal.{value}
use Rattle.protection.specs.Scd as scd
use Rattle.protection.specs.Ocd as ocd
use Rattle.protection.specs.declared.scd.SCDThreshold.{SCDThreshold}
use Rattle.protection.specs.declared.ocd.OCDThreshold.{OCDThreshold}
use Rattle.adc.specs.Conversion.{millivolts}
use Rattle.adc.specs.Trips.{ov_trip, uv_trip, reading_of, trip_code}
use Rattle.plan.specs.AsAsked.{AskedIn}
use Rattle.plan.specs.Fields.{Fields, read_back}
use Rattle.plan.specs.Plan.{Planned, plan_for}
use Rattle.plan.specs.Trips.{uv_limits, obtainable}
use Rattle.plan.specs.declared.Config.{Config}
use Rattle.plan.proofs.Accepted.{accepted}
use Rattle.plan.proofs.Asked.{asked_in}
use Rattle.plan.proofs.Bytes.{bytes}
use Rattle.plan.proofs.Needs.{plan_within}

module _
    (gain : ℕ)
    (offset : ℤ)
    (config : Config)
    (s : SCDThreshold)
    (o : OCDThreshold)
    {p : Planned}
    (e : plan_for gain offset config (scd.mv_of s) (ocd.mv_of o) ≡ value p)
  where
    ov_code_is : (read_back p.regs).ov_trip ≡ trip_code (reading_of gain offset config.ov_threshold.0)
    ov_code_is = ap (λ (f : Fields). f.ov_trip) (bytes gain offset config s o e)

    uv_code_is : (read_back p.regs).uv_trip ≡ trip_code (reading_of gain offset config.uv_threshold.0)
    uv_code_is = ap (λ (f : Fields). f.uv_trip) (bytes gain offset config s o e)

    -- the gains and offsets that the calibration registers give (gain-range and offset-range of adc): `mag` is n of n and of -(n + 1)
    module _ (device : 365 ≤ gain) (byte : mag offset < 128) where
      pub ov_asked : AskedIn gain offset config.ov_threshold.0 0x2005 0x2FF8
      ov_asked = asked_in gain device offset _ 0x2005 0x2FF8 byte (omega arith) (omega arith) (plan_within gain offset config _ _ e).0

      pub uv_asked : AskedIn gain offset config.uv_threshold.0 0x0FFD 0x1FF0
      uv_asked = asked_in gain device offset _ 0x0FFD 0x1FF0 byte (omega arith) (omega arith) (plan_within gain offset config _ _ e).1

      pub ov_written : ov_trip (read_back p.regs).ov_trip ≡ ov_asked.reading / 16 * 16 + 8
      ov_written = ap ov_trip (ov_code_is ∙ ap trip_code ov_asked.is) ∙ omega (arith, ov_asked.least, ov_asked.most)

      pub uv_written : 0x1000 ≤ uv_asked.reading → uv_trip (read_back p.regs).uv_trip ≡ uv_asked.reading / 16 * 16
      uv_written from = ap uv_trip (uv_code_is ∙ ap trip_code uv_asked.is) ∙ omega (arith, uv_asked.most)

      pub uv_wraps : uv_asked.reading < 0x1000 → (read_back p.regs).uv_trip ≡ 0xFF
      uv_wraps below = uv_code_is ∙ ap trip_code uv_asked.is ∙ omega (arith, uv_asked.least)

    pub ov_reported : p.values.ov ≡ millivolts gain offset (ov_trip (read_back p.regs).ov_trip)
    ov_reported =
        let plan = accepted gain offset config (scd.mv_of s) (ocd.mv_of o) e in
        sym (ap (λ (p : Planned). p.values.ov) plan.1.1)
        ∙ ap (λ (code : ℕ). millivolts gain offset (ov_trip code)) (sym ov_code_is)

    pub uv_reported : p.values.uv ≡ millivolts gain offset (uv_trip (read_back p.regs).uv_trip)
    uv_reported =
        let plan = accepted gain offset config (scd.mv_of s) (ocd.mv_of o) e in
        sym (ap (λ (p : Planned). p.values.uv) plan.1.1)
        ∙ ap (λ (code : ℕ). millivolts gain offset (uv_trip code)) (sym uv_code_is)

-- the exception is met: at a gain of 373 and an offset of 0 the lower limit is 1527 mV, whose reading is 0FFD hex
pub wraps_at : (obtainable (pos 1527) (uv_limits 373 (pos 0)) ≡ true) × (reading_of 373 (pos 0) (pos 1527) ≡ pos 0x0FFD)
wraps_at = (refl, refl)
