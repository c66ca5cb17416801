-- Once the six bytes are written the shunt is stored, whatever becomes of 05.
-- Assumes nothing.
use Rattle.std.proofs.Common.{arith}
use Rattle.bus.specs.Programs.{proceed, on_tape}
use Rattle.procedure.specs.Init.{protect}
use Rattle.bus.proofs.Steps.{step}
use Rattle.setup.proofs.ByLink.{start_counter_tells}
use Rattle.setup.proofs.stages.protect.Goals as goal

pub returns-in_err-start_counter : goal.returns-in_err-start_counter
unfolding protect proceed on_tape
returns-in_err-start_counter c readings = grind (arith, step, start_counter_tells, c.store_shunt.ensures readings)

pub returns : goal.returns
unfolding protect proceed on_tape
returns c readings = grind (arith, step, start_counter_tells, c.store_shunt.ensures readings)
