-- A device that is made is set up, with nothing read yet.
-- Assumes nothing.
use Rattle.std.proofs.Common.{arith}
use Rattle.bus.specs.Programs.{proceed, on_tape}
use Rattle.bq769x0.specs.Registers.{soundly}
use Rattle.bq769x0.specs.Record.{unread}
use Rattle.procedure.specs.Init.{init_by}
use Rattle.bus.proofs.Steps.{step}
use Rattle.job_setup.specs.JobInit.{job_init}
use Rattle.job_setup.proofs.Made.{new_sound_by_answer}
use Rattle.job_setup.proofs.set_up.Goals as goal

pub returns : goal.returns
unfolding job_init init_by soundly proceed on_tape
returns c = grind (arith, step, new_sound_by_answer, c.set_up.ensures unread)
