-- Demand 3 for C: calls of `bq769x0_init` with one job.
-- Assumes nothing.
use Rattle.std.specs.Prelude.{◌≡◌, Bool, true, List, ℕ}
use Rattle.std.proofs.Math.Option.{Option}
use Rattle.refusals.specs.Refusal.{Answer, value, refused, number_of}
use Rattle.plan.specs.Order.{◌and_then◌}
use Rattle.plan.specs.Steps.{steps_for}
use Rattle.plan.specs.InNumbers.{init_numbers}
use Rattle.job.specs.Jobs.{config_of, job_of}
use Rattle.bus.specs.Programs.{Prog}
use Rattle.bq769x0.specs.declared.BQ769x0.{BQ769x0}
use Rattle.chip.specs.OnChip.{Matches, Wired, uncut}
use Rattle.chip.specs.declared.Chip.{Chip}
use Rattle.recovery.specs.Recovery.{six, chip_left, brought}
use Rattle.runs.specs.Calls as runs
use Rattle.runs.specs.Calls.{Call, OnEveryChip, Calls, one_more, most_of, on, ByItsLog, Alike}
use Rattle.job_setup.specs.JobInit.{device_made, job_init}
use Rattle.recovered.specs.ForC.{Told, telling, link_of}

-- what it does and tells
abbrev pub init_for_c : List ℕ → Prog Told
init_for_c job =
    telling (λ left. record { number = number_of left.answer; numbers = init_numbers left.answer }) (job_init job)

-- a call on a chip and its wire, and such calls, one after another, each on a wire of its own, cut anywhere
abbrev pub Run : List ℕ → Wired → Call Told → Type 0
Run job w call = runs.Run (init_for_c job) 52 w call

abbrev pub Inits : List ℕ → Chip → Chip → Type 0
Inits job c c' = Calls (init_for_c job) 52 c c'

-- the new record of the device that the job names, and how many of the six an `init` of it brings
unfoldable pub record_for : List ℕ → Answer BQ769x0
record_for job = job_of job and_then λ wanted. device_made wanted.device

abbrev pub brought_by : Answer BQ769x0 → List ℕ → (ℕ → Option ℕ) → ℕ
brought_by (value d) bytes cuts = brought d cuts bytes
brought_by (refused r) bytes cuts = 0

-- of the six so many are new: the most that one of the calls brought
abbrev pub new_of : (job : List ℕ) {c c' : Chip} → Inits job c c' → ℕ
new_of job {c} calls = most_of (brought_by (record_for job) (six steps_for (config_of job) c)) calls

-- What calls leave on the chip, cut anywhere and any number of them, and what comes of the next one on a sound bus.
pub record Recovers (job : List ℕ) {c c' : Chip} (calls : Inits job c c') : Type 0 where
  -- 05 is its old byte, or set once all six are new; no register but these seven changes
  pub on : Bool
  pub last : on ≡ true → new_of job calls ≡ 6
  pub chip : c' ≡ chip_left steps_for (config_of job) c on (new_of job calls)
  -- it ends as it would have at first
  pub again : (second first : Call Told) → Run job (uncut c') second → Run job (uncut c) first
      → Alike (uncut c') (uncut c) second first

-- One call with a job, on a chip and a wire that is cut anywhere.
pub record Survives (job : List ℕ) (call : Call Told) (c : Chip) (cuts : ℕ → Option ℕ) : Type 0 where
  pub run : Run job (on c cuts) call
  pub by_log : ByItsLog (init_for_c job) (on c cuts) call
  -- whatever calls came before it, from a chip that has the job's address and check setting
  pub recovers : {c₀ : Chip} → Matches (link_of job) c₀ → (calls : Inits job c₀ c) → Recovers job (one_more calls cuts call run)

-- Demand 3 of one call, whatever chip answers it, on whatever wire.
abbrev pub Demand3 : List ℕ → Call Told → Type 0
Demand3 job call = OnEveryChip (init_for_c job) 52 call (Survives job call)
