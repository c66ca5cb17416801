-- The six bytes are asked of the record that the calibration left.
-- Assumes nothing.
use Rattle.std.proofs.Common.{arith}
use Rattle.bus.specs.Programs.{proceed, on_tape}
use Rattle.bus.proofs.Programs.{on_tape_bind}
use Rattle.procedure.specs.Init.{onward, onward_by}
use Rattle.bus.proofs.Steps.{step}
use Rattle.setup.proofs.ByLink.{calibrate_tells}
use Rattle.setup.proofs.set_up.Goals as goal

pub returns : goal.returns
unfolding onward onward_by proceed on_tape
returns c readings =
    grind (arith, step, on_tape_bind, calibrate_tells, c.store_calibration.ensures readings, c.protect.ensures readings)
