-- A job set up, as a program: the job that bytes begin with, the device that it names, and that device's `init`.
-- Assumes nothing.
use Rattle.std.specs.Prelude.{ℕ, false, List}
use Rattle.refusals.specs.Refusal.{Answer, value, refused}
use Rattle.plan.specs.Steps.{steps_for}
use Rattle.plan.specs.Plan.{Values}
use Rattle.job.specs.Jobs.{job_of}
use Rattle.job.specs.declared.Device.{Device}
use Rattle.bus.specs.Programs.{Prog, ret, ◌or_leave◌, ◌>>=◌}
use Rattle.bq769x0.specs.Record.{Left, leaving, fresh, new_for}
use Rattle.procedure.specs.Init.{init_by}
use Rattle.bq769x0.specs.declared.BQ769x0.{BQ769x0}

-- no device: one of size 0, on which every call is refused
abbrev pub no_device : BQ769x0
no_device = fresh 0 0 0 false

-- the record where it is made
abbrev pub made_of : {A : Type 0} → Answer A → BQ769x0 → Answer BQ769x0
made_of (value done) d = value d
made_of (refused r) d = refused r

abbrev pub device_made : Device → Answer BQ769x0
device_made d =
    let new = new_for d.x d.address d.cells d.check in
    made_of new.answer new.device

unfoldable pub job_init : List ℕ → Prog (Left Values)
job_init bytes = do
  job ← ret (job_of bytes) or_leave leaving no_device
  device ← ret (device_made job.device) or_leave leaving no_device
  init_by steps_for device job.config
