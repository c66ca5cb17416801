-- Demand 2 of `init`: what its own log and tape show beside what it answers.
-- Assumes nothing.
use Rattle.std.specs.Prelude.{ℕ, ◌≡◌, List, [], ◌∷◌, length}
use Rattle.std.proofs.Math.Option.{some, bind}
use Rattle.refusals.specs.Refusal.{Answer, value}
use Rattle.adc.specs.declared.transfer.AdcTransferFunction.{AdcTransferFunction}
use Rattle.plan.specs.AsAsked.{AsAsked}
use Rattle.plan.specs.Exactly.{of678, unfit}
use Rattle.plan.specs.Plan.{Values}
use Rattle.plan.specs.declared.Config.{Config}
use Rattle.bus.specs.Shown.{Made, access, registers_written}
use Rattle.bus.specs.declared.link.Link.{Link}
use Rattle.as_asked.specs.Tables.{table05, counting}
use Rattle.as_asked.specs.Seen.{read_from, calibration_in}

module _ (link : Link) (config : Config) (seen : List Made) where
  -- accepted, with these values
  pub record SetAsAsked (v : Values) : Type 0 where
    -- the calibration that was read
    pub adc : AdcTransferFunction
    pub calibrated : calibration_in link seen ≡ some adc
    -- what was read of 05, and what was written: six bytes from 06 on, and then 05, and nothing else
    pub was : ℕ
    pub read_05 : read_from link seen 0x05 ≡ was ∷ []
    pub six : List ℕ
    pub all_six : length six ≡ 6
    pub now : ℕ
    pub written : registers_written link.check seen ≡ access link.address 0x06 six ∷ access link.address 0x05 (now ∷ []) ∷ []
    -- by the register tables: the six are as asked, and so are the values; in 05 the counter is on, and all else as it was read
    pub as_asked_is : AsAsked adc.gain adc.offset config six v
    pub counter : table05 now ≡ counting (table05 was)

  pub record Demand2 (answer : Answer Values) : Type 0 where
    pub accepted : (v : Values) → answer ≡ value v → SetAsAsked v
    -- 6, 8 and 7 exactly where the calibration that was read says so, with exactly its limits
    pub refused : of678 answer ≡ bind (calibration_in link seen) (λ adc. unfit adc.gain adc.offset config)
