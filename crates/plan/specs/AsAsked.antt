-- That six bytes for 06 to 0B, and the values reported beside them, are what a configuration asks for on a device of this gain and offset.
-- Assumes nothing.
use Rattle.std.specs.Prelude.{ℕ, ◌+◌, ◌*◌, ◌/◌, ◌≤◌, ◌<◌, ◌≡◌, List, ℤ, pos, get_or}
use Rattle.refusals.specs.Refusal.{value}
use Rattle.protection.specs.Delays.{scd_times, scd_named, ocd_times, ocd_named, uv_times, uv_named, ov_times, ov_named}
use Rattle.protection.specs.Ranges.{range_for, for_both}
use Rattle.protection.specs.Steps.{scd_lower, scd_upper, ocd_lower, ocd_upper}
use Rattle.adc.specs.Trips.{ov_trip, uv_trip, reading_of}
use Rattle.plan.specs.Fields.{Fields, read_back, of_range, fields_of}
use Rattle.plan.specs.Plan.{Values, values_for}
use Rattle.plan.specs.Steps.{scd_step, ocd_step}
use Rattle.plan.specs.declared.Config.{Config}

-- the reading of an asked voltage, rounded down, and that it is from low to high
pub record AskedIn (gain : ℕ) (offset asked : ℤ) (low high : ℕ) : Type 0 where
  pub reading : ℕ
  pub is : reading_of gain offset asked ≡ pos reading
  pub least : low ≤ reading
  pub most : reading ≤ high

module _ (gain : ℕ) (offset : ℤ) (config : Config) (six : List ℕ) (v : Values) where
  -- the six, read by the register table
  abbrev table : Fields
  table = read_back six

  -- the step at a place in the list of the range used
  abbrev step_at : List ℕ → List ℕ → ℕ → ℕ
  step_at lower upper place = get_or (of_range v.range lower upper) place 0

  pub record AsAsked : Type 0 where
    -- the range used is the lower where both steps are in it, or else the upper
    pub range : for_both (range_for scd_lower scd_upper (scd_step config)) (range_for ocd_lower ocd_upper (ocd_step config)) ≡ value v.range
    -- each field holds its code, the reserved ones 0
    pub fields : table ≡ fields_of gain offset config (scd_step config) (ocd_step config) v.range
    -- where each step's code points in the range's list, the step stands
    pub scd_step_is : step_at scd_lower scd_upper table.scd_thresh ≡ scd_step config
    pub ocd_step_is : step_at ocd_lower ocd_upper table.ocd_thresh ≡ ocd_step config
    -- where each delay's code points in the datasheet's list, the time in the delay's name stands
    pub scd_delay_is : get_or scd_times table.scd_delay 0 ≡ scd_named config.scd_delay
    pub ocd_delay_is : get_or ocd_times table.ocd_delay 0 ≡ ocd_named config.ocd_delay
    pub uv_delay_is : get_or uv_times table.uv_delay 0 ≡ uv_named config.uv_delay
    pub ov_delay_is : get_or ov_times table.ov_delay 0 ≡ ov_named config.ov_delay
    -- the chip trips at the asked reading with 8 for its low four bits (OV), with 0 for them (UV); but a reading of up to three below 1000 hex,
    -- which an undervoltage asked at its lower limit can have, gets the code FF
    pub ov_asked : AskedIn gain offset config.ov_threshold.0 0x2005 0x2FF8
    pub ov_trip_is : ov_trip table.ov_trip ≡ ov_asked.reading / 16 * 16 + 8
    pub uv_asked : AskedIn gain offset config.uv_threshold.0 0x0FFD 0x1FF0
    pub uv_trip_is : 0x1000 ≤ uv_asked.reading → uv_trip table.uv_trip ≡ uv_asked.reading / 16 * 16
    pub uv_wraps : uv_asked.reading < 0x1000 → table.uv_trip ≡ 0xFF
    -- reported are the currents of the steps and the voltages at the trip readings, by the codes
    pub values : v ≡ values_for gain offset config.shunt.0
        (step_at scd_lower scd_upper table.scd_thresh) (step_at ocd_lower ocd_upper table.ocd_thresh)
        v.range table.ov_trip table.uv_trip
