-- Two answers that meet one promise agree: each is told by its device, configuration, job or seconds, or by its refusal.
-- Assumes nothing.
use mathlib.Core.Path.{◌≡◌, refl}
use Prim.Native.Nat.{ℕ}
use Rattle.std.specs.Prelude.{Result}
use Rattle.refusals.specs.declared.Error.{Error}
use Rattle.refusals.proofs.OneToOne.{answer_agree}
use Rattle.plan.specs.declared.Config.{Config}
use Rattle.job.specs.Jobs.{as_device, as_config, as_job}
use Rattle.job.specs.Seconds.{as_seconds}
use Rattle.job.specs.declared.Device.{Device}
use Rattle.job.specs.declared.Job.{Job}

pub job_agree : (a b : Result Job Error) → as_job a ≡ as_job b → a ≡ b
job_agree = answer_agree (λ job. job) (λ job. job) (λ _. refl)

pub device_agree : (a b : Result Device Error) → as_device a ≡ as_device b → a ≡ b
device_agree = answer_agree (λ device. device) (λ device. device) (λ _. refl)

pub config_agree : (a b : Result Config Error) → as_config a ≡ as_config b → a ≡ b
config_agree = answer_agree (λ config. config) (λ config. config) (λ _. refl)

pub seconds_agree : (a b : Result ℕ Error) → as_seconds a ≡ as_seconds b → a ≡ b
seconds_agree = answer_agree (λ seconds. seconds) (λ seconds. seconds) (λ _. refl)
