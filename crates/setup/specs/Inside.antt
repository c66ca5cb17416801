-- What private contracts cite: stages of `init` that need no more than the link. Nobody has to believe it.
-- Assumes nothing.
use Rattle.std.specs.Prelude.{[], ◌∷◌, get_or, Result}
use Rattle.std.specs.Int.Bits.{bit_or}
use Rattle.refusals.specs.Refusal.{Answer, value, refused, as_answer}
use Rattle.refusals.specs.declared.Error.{Error}
use Rattle.adc.specs.Registers.{calibration}
use Rattle.adc.specs.declared.transfer.AdcTransferFunction.{AdcTransferFunction}
use Rattle.bus.specs.Programs.{Prog, ret, ◌or_leave◌, ◌>>=◌}
use Rattle.bus.specs.Raw.{Done, read_bytes, write_raw}
use Rattle.bus.specs.declared.link.Link.{Link}

abbrev pub as_calibration : Result AdcTransferFunction Error → Answer AdcTransferFunction
as_calibration = as_answer (λ adc. adc)

-- the two reads, and what they give
unfoldable pub calibration_read : Link → Prog (Answer AdcTransferFunction)
calibration_read link = do
  first ← read_bytes link 0x50 2 or_leave refused
  second ← read_bytes link 0x59 1 or_leave refused
  ret (value (calibration (get_or first 0 0) (get_or first 1 0) (get_or second 0 0)))

-- 05 with the counter let run
unfoldable pub counter_started : Link → Prog (Answer Done)
counter_started link = do
  byte ← read_bytes link 0x05 1 or_leave refused
  write_raw link 0x05 (bit_or (get_or byte 0 0) 0b0100_0000 ∷ [])
