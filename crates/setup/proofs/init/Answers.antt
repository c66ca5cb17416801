-- A record that is sound is set up by its head, with its own readings.
-- Assumes nothing.
use Rattle.std.proofs.Common.{arith}
use Rattle.bus.specs.Programs.{on_tape}
use Rattle.bq769x0.specs.Registers.{soundly}
use Rattle.procedure.specs.Init.{init_by}
use Rattle.setup.proofs.init.Goals as goal

pub returns : goal.returns
unfolding init_by soundly on_tape
returns c = grind (arith, c.set_up-answer.ensures c.args.device.now.readings)
