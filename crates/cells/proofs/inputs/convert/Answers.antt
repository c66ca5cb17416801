-- `cells::inputs::convert` meets its contract: eight are enough, or sixteen.
-- Assumes nothing.
use Rattle.std.proofs.Common.{ℕ, ◌≤◌, List, take, ℤ, sym, ap, ◌∙◌, arith}
use lib.Seq.{take-take}
use Rattle.adc.specs.declared.transfer.AdcTransferFunction.{AdcTransferFunction}
use Rattle.procedure.specs.Inputs.{converted}
use Rattle.cells.specs.Inside.{Held}
use Rattle.cells.proofs.inputs.convert.Goals as goal

fewer : {adc : AdcTransferFunction} {bytes : List ℕ} {k : ℕ} {cells : List ℤ} (n : ℕ) → n ≤ k
    → Held adc bytes k cells → Held adc bytes n cells
fewer {adc} {bytes} {k} {cells} n few held = record {
  from = held.from;
  room = held.room;
  first =
      sym (take-take n k cells few)
      ∙ ap (take n) held.first
      ∙ take-take n k (converted adc bytes) few;
  small = λ j h. held.small j (omega arith);
}

pub returns-then-n-gt8 : goal.returns-then-n-gt8
returns-then-n-gt8 c = fewer _ (omega arith) c.convert_eight-then-n-gt8.ensures

pub returns-else-n-gt8 : goal.returns-else-n-gt8
returns-else-n-gt8 c = fewer _ (omega arith) c.convert_eight.ensures
