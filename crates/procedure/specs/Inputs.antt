-- The chip's inputs, from register 0C on, two bytes each, high first: read at once, and each converted to millivolts.
-- Assumes nothing.
use Rattle.std.specs.Prelude.{ℕ, ◌*◌, List, [], ◌∷◌, map, ℤ}
use Rattle.numbers.specs.Numbers.{word}
use Rattle.refusals.specs.Refusal.{Answer, value, refused}
use Rattle.adc.specs.Conversion.{millivolts}
use Rattle.adc.specs.declared.transfer.AdcTransferFunction.{AdcTransferFunction}
use Rattle.units.specs.declared.MilliVolts.{MilliVolts}
use Rattle.bus.specs.Programs.{Prog, ret, ◌or_leave◌, ◌>>=◌}
use Rattle.bus.specs.Raw.{read_bytes}
use Rattle.bus.specs.declared.link.Link.{Link}

-- each two bytes as one reading
abbrev pub readings : List ℕ → List ℕ
readings [] = []
readings (high ∷ []) = []
readings (high ∷ low ∷ bytes) = word high low ∷ readings bytes

-- in mV, with their signs
abbrev pub converted : AdcTransferFunction → List ℕ → List ℤ
converted adc bytes = map (millivolts adc.gain adc.offset) (readings bytes)

-- as the record holds them
abbrev pub as_cell : ℤ → MilliVolts
as_cell mv = record { 0 = mv }

abbrev pub as_cells : List ℤ → List MilliVolts
as_cells = map as_cell

unfoldable pub read_inputs : Link → AdcTransferFunction → Prog (Answer (List ℤ))
read_inputs link adc = do
  bytes ← read_bytes link 0x0C (2 * link.x) or_leave refused
  ret (value (converted adc bytes))
