-- Two outcomes that meet one promise agree: in the answer, in the record, and in tape, log and both positions.
-- Assumes nothing.
use mathlib.Core.Path.{◌≡◌}
use Rattle.std.specs.Prelude.{Result}
use Rattle.refusals.specs.declared.Error.{Error}
use Rattle.plan.specs.Plan.{Values, as_init}
use Rattle.plan.specs.declared.CalculatedValues.{CalculatedValues}
use Rattle.plan.proofs.Agree.{answer_agree}
use Rattle.bus.specs.Transfers.{Bus}
use Rattle.bus.specs.Programs.{Prog, ends, on_tape}
use Rattle.bus.specs.Raw.{Done, as_raw}
use Rattle.bus.proofs.Agree.{raw_agree}
use Rattle.bq769x0.specs.Record.{with_head, Left, leaves}
use Rattle.bq769x0.specs.declared.BQ769x0.{BQ769x0}
use Rattle.bq769x0.specs.declared.Head.{Head}
use Rattle.bq769x0.specs.declared.Readings.{Readings}
use Rattle.bq769x0.proofs.Agree.{head_agree, left_agree}

-- `read_adc_characteristics`
pub calibrated_agree : (p : Prog (Left Done)) (b after after' : Bus) (a a' : Result Done Error) (d d' : BQ769x0)
    → ends (leaves (as_raw a) d) after ≡ on_tape p b
    → ends (leaves (as_raw a') d') after' ≡ on_tape p b
    → (a ≡ a') × (d ≡ d') × (after ≡ after')
calibrated_agree p b after after' a a' d d' e e' =
    let same = left_agree p b (as_raw a) (as_raw a') d d' after after' e e' in
    (raw_agree a a' same.0, same.1, same.2)

-- `init`
pub init_agree : (p : Prog (Left Values)) (b after after' : Bus) (a a' : Result CalculatedValues Error) (d d' : BQ769x0)
    → ends (leaves (as_init a) d) after ≡ on_tape p b
    → ends (leaves (as_init a') d') after' ≡ on_tape p b
    → (a ≡ a') × (d ≡ d') × (after ≡ after')
init_agree p b after after' a a' d d' e e' =
    let same = left_agree p b (as_init a) (as_init a') d d' after after' e e' in
    (answer_agree a a' same.0, same.1, same.2)

-- `set_up`, on a record of any readings
pub set_up_agree : (p : Prog (Left Values)) (b after after' : Bus) (readings : Readings) (a a' : Result CalculatedValues Error) (h h' : Head)
    → ends (leaves (as_init a) (with_head h readings)) after ≡ on_tape p b
    → ends (leaves (as_init a') (with_head h' readings)) after' ≡ on_tape p b
    → (a ≡ a') × (h ≡ h') × (after ≡ after')
set_up_agree p b after after' readings a a' h h' e e' =
    let same = init_agree p b after after' a a' (with_head h readings) (with_head h' readings) e e' in
    (same.0, head_agree h h' readings same.1, same.2)
