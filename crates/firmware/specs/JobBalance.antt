-- Balancing by a device that bytes name, as programs: 15, then 9, 10, 11, and then the call on its new record.
-- Assumes nothing.
use Rattle.std.specs.Prelude.{ℕ, List}
use Rattle.refusals.specs.Refusal.{Answer, refused}
use Rattle.plan.specs.Order.{◌and_then◌}
use Rattle.job.specs.Jobs.{device_for}
use Rattle.bus.specs.Programs.{Prog, ret, ◌or_leave◌, ◌>>=◌}
use Rattle.bus.specs.Raw.{Done}
use Rattle.bq769x0.specs.declared.BQ769x0.{BQ769x0}
use Rattle.commands.specs.Commands.{balance_set, balance_get}
use Rattle.job_setup.specs.JobInit.{device_made}

-- the record of the device in field 20, at the head of bytes
unfoldable pub record_of : List ℕ → Answer BQ769x0
record_of bytes = device_for bytes and_then device_made

unfoldable pub job_balance_set : List ℕ → ℕ → ℕ → Prog (Answer Done)
job_balance_set bytes set limit = do
  device ← ret (record_of bytes) or_leave refused
  balance_set device set limit

unfoldable pub job_balance_get : List ℕ → Prog (Answer ℕ)
job_balance_get bytes = do
  device ← ret (record_of bytes) or_leave refused
  balance_get device
