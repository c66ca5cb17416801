-- The starred rows of the scope's table: what the definitions give, and what the table says. An answer is a list of
-- numbers, or a refusal.
-- Assumes nothing.
use Rattle.std.specs.Prelude.{ℕ, List, [], ◌∷◌, map, ℤ, pos, neg_ℤ}
use Rattle.numbers.specs.Numbers.{as_i8, as_i16, word}
use Rattle.refusals.specs.Refusal.{Answer, value, refused, no}
use Rattle.protection.specs.declared.delays.SCDDelay.TheVariants as S
use Rattle.protection.specs.declared.delays.OCDDelay.TheVariants as O
use Rattle.protection.specs.declared.delays.UVDelay.TheVariants as U
use Rattle.protection.specs.declared.delays.OVDelay.TheVariants as W
use Rattle.adc.specs.Registers.{gain_of}
use Rattle.adc.specs.Conversion.{millivolts, milliamperes}
use Rattle.moves.specs.Moves.{inputs_of}
use Rattle.check_byte.specs.CheckByte.{check_byte}
use Rattle.plan.specs.Order.{◌and_then◌}
use Rattle.plan.specs.Steps.{steps_for}
use Rattle.plan.specs.Plan.{Values, plan_for}
use Rattle.plan.specs.Fields.{Fields, read_back}
use Rattle.plan.specs.declared.Config.{Config}

abbrev pub Row : Type 0
Row = Answer (List ℤ) × Answer (List ℤ)

abbrev is : ℤ → Answer (List ℤ)
is z = value (z ∷ [])

-- two currents in A at 1000 µΩ, UV and OV in mV; no row depends on the delays
abbrev config : ℕ → ℕ → ℕ → ℕ → Config
config scd ocd uv ov = record {
  shunt = record { 0 = 1000 };
  scd_delay = S._200uS;
  scd_threshold = record { 0 = scd };
  ocd_delay = O._320ms;
  ocd_threshold = record { 0 = ocd };
  uv_delay = U._4s;
  uv_threshold = record { 0 = pos uv };
  ov_delay = W._2s;
  ov_threshold = record { 0 = pos ov };
}

-- of what a configuration is set up with at gain 365 and offset 0: fields of the six bytes written, and values reported
abbrev set_up : (Fields → Values → List ℤ) → Config → Answer (List ℤ)
set_up shown c =
    steps_for c and_then λ steps.
    plan_for 365 (pos 0) c steps.scd steps.ocd and_then λ plan.
    value (shown (read_back plan.regs) plan.values)

abbrev uv : ℕ → Answer (List ℤ)
uv asked = set_up (λ fields values. pos fields.uv_trip ∷ values.uv ∷ []) (config 50 20 asked 4200)

abbrev ov : ℕ → Answer (List ℤ)
ov asked = set_up (λ fields values. pos fields.ov_trip ∷ []) (config 50 20 2800 asked)

-- the range, 1 for upper, and both codes there
abbrev both : ℕ → ℕ → Answer (List ℤ)
both scd ocd =
    set_up
    (λ fields values. pos fields.rsns ∷ pos fields.scd_thresh ∷ pos fields.ocd_thresh ∷ [])
    (config scd ocd 2800 4200)

abbrev scd_step : ℕ → Answer (List ℤ)
scd_step scd = steps_for (config scd 20 2800 4200) and_then λ steps. is (pos steps.scd)

abbrev pub starred : List Row
starred =
    (is (pos (gain_of 0x0C 0xE0)), is (pos 396)) ∷
    (is (as_i8 0x80), is (neg_ℤ (pos 128))) ∷
    (is (millivolts 365 (neg_ℤ (pos 1)) 1), is (pos 0)) ∷
    (is (millivolts 365 (neg_ℤ (pos 1)) 0), is (neg_ℤ (pos 1))) ∷
    (uv 1495, value (pos 0xFF ∷ pos 2984 ∷ [])) ∷
    (uv 1496, value (pos 0x00 ∷ pos 1495 ∷ [])) ∷
    (uv 2984, value (pos 0xFE ∷ pos 2978 ∷ [])) ∷
    (ov 2993, is (pos 0x00)) ∷
    (ov 4482, is (pos 0xFF)) ∷
    (scd_step 255, is (pos 200)) ∷
    (both 100 55, refused (no 6 [])) ∷
    (both 44 44, value (pos 0 ∷ pos 0x2 ∷ pos 0xD ∷ [])) ∷
    (milliamperes (as_i16 (word 0xFF 0xFF)) 1000 and_then is, is (neg_ℤ (pos 8))) ∷
    (value (map pos (inputs_of 10 10)), value (map pos (1 ∷ 2 ∷ 3 ∷ 5 ∷ 5 ∷ 6 ∷ 7 ∷ 10 ∷ 9 ∷ 10 ∷ []))) ∷
    (is (pos (check_byte (0x01 ∷ []))), is (pos 0x07)) ∷
    []
