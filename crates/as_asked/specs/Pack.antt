-- Demand 2 of the pack's voltage, which is the datasheet's: what the call's own log and tape show beside what it answers.
-- Assumes nothing.
use Rattle.std.specs.Prelude.{ℕ, ◌≡◌, List, [], ◌∷◌, ℤ, pos, neg_ℤ, ◌≤ℤ◌}
use Rattle.numbers.specs.Numbers.{word}
use Rattle.refusals.specs.Refusal.{Answer, value}
use Rattle.adc.specs.Conversion.{pack_millivolts}
use Rattle.adc.specs.Crate.{crate_pack_uv, CrateGives}
use Rattle.bus.specs.Shown.{Made, registers_written}
use Rattle.bq769x0.specs.declared.BQ769x0.{BQ769x0}
use Rattle.as_asked.specs.Seen.{read_from}

module _ (d : BQ769x0) (seen : List Made) where
  -- accepted, with so many mV
  pub record ByBytes (mv : ℤ) : Type 0 where
    -- the bytes that were read of 2A and 2B
    pub high : ℕ
    pub low : ℕ
    pub read_2a : read_from d.link seen 0x2A ≡ high ∷ low ∷ []
    -- the offset once per fitted cell, by the record's count
    pub volts : mv ≡ pack_millivolts d.cell_count d.adc.gain d.adc.offset (word high low)
    pub least : neg_ℤ (pos 1920) ≤ℤ mv
    pub most : mv ≤ℤ pos 105712
    -- the crate takes five offsets, whatever the count
    pub of_five : d.cell_count ≡ 5 → CrateGives (crate_pack_uv d.adc.gain d.adc.offset (word high low)) mv

  pub record PackVoltage (answer : Answer ℤ) : Type 0 where
    pub accepted : (mv : ℤ) → answer ≡ value mv → ByBytes mv
    pub unwritten : registers_written d.link.check seen ≡ []
