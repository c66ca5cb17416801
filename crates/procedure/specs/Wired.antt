-- The cells by the datasheet's wiring, as a program: the crate's one read of all inputs, and of it each fitted input
-- once, bottom of the pack first, with its number beside it.
-- Assumes nothing.
use Rattle.std.specs.Prelude.{ℕ, ◌+◌, ◌-◌, ◌*◌, min, List, ℤ, length, get_or}
use Rattle.laws.specs.Over.{◌over◌}
use Rattle.numbers.specs.Numbers.{word}
use Rattle.refusals.specs.Refusal.{Refusal, Answer, value, refused, nine}
use Rattle.adc.specs.Conversion.{millivolts}
use Rattle.adc.specs.declared.transfer.AdcTransferFunction.{AdcTransferFunction}
use Rattle.wiring.specs.Tables.{fitted}
use Rattle.bus.specs.Programs.{Prog, ret, ◌or_leave◌, ◌>>=◌}
use Rattle.bus.specs.Raw.{Done}
use Rattle.bq769x0.specs.Registers.{soundly}
use Rattle.bq769x0.specs.declared.BQ769x0.{BQ769x0}
use Rattle.procedure.specs.Inputs.{read_inputs}
use Rattle.procedure.specs.Taking.{voltages, taking}
use Rattle.procedure.specs.Cells.{ready}

-- ---- an input's voltage by its two registers: VC1_HI is 0C, VC1_LO 0D, and so on
abbrev pub high_of : ℕ → ℕ
high_of input = 0x0C + 2 * (input - 1)

-- of bytes read from 0C on, that of a register
abbrev pub byte_of : List ℕ → ℕ → ℕ
byte_of bytes register = get_or bytes (register - 0x0C) 0

abbrev pub of_registers : AdcTransferFunction → List ℕ → ℕ → ℤ
of_registers adc bytes input =
    millivolts adc.gain adc.offset (word (byte_of bytes (high_of input)) (byte_of bytes (high_of input + 1)))

-- ---- an answer, and the record and the caller's two lists then
pub record Shown : Type 0 where
  pub answer : Answer Done
  pub device : BQ769x0
  pub inputs : List ℕ
  pub list : List ℤ

abbrev pub shown : Answer Done → BQ769x0 → List ℕ → List ℤ → Shown
shown a d inputs list = record { answer = a; device = d; inputs = inputs; list = list }

-- nothing of record and lists is touched
abbrev pub unshown : BQ769x0 → List ℕ → List ℤ → Refusal → Shown
unshown d inputs list r = shown (refused r) d inputs list

-- the record as the crate's call leaves it
abbrev pub showing : BQ769x0 → List ℕ → List ℤ → List ℤ → Shown
showing d inputs list readings =
    shown (value tt) (taking d readings)
    (fitted d.link.x d.cell_count over inputs)
    (voltages d.link.x d.cell_count readings over list)

unfoldable pub read_wired : BQ769x0 → List ℕ → List ℤ → Prog Shown
read_wired d inputs list = do
  readings ← read_inputs d.link d.adc or_leave unshown d inputs list
  ret (showing d inputs list readings)

-- 9, 4, and 19 where either list is shorter than the count
unfoldable pub wired : BQ769x0 → List ℕ → List ℤ → Prog Shown
wired d inputs list = soundly d (unshown d inputs list nine) (do
  _ ← ret (ready d (min (length inputs) (length list))) or_leave unshown d inputs list
  read_wired d inputs list)
