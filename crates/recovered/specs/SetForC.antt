-- Demand 3 for C: calls of `bq769x0_balance_set` with one device, set and limit.
-- Assumes nothing.
use Rattle.std.specs.Prelude.{◌≡◌, List, [], ℕ}
use Rattle.std.proofs.Math.Option.{Option}
use Rattle.refusals.specs.Refusal.{Answer, value, refused, number_of}
use Rattle.cellbal.specs.Rules.{allowed}
use Rattle.job.specs.Jobs.{device_of}
use Rattle.bus.specs.Programs.{Prog}
use Rattle.bq769x0.specs.declared.BQ769x0.{BQ769x0}
use Rattle.chip.specs.OnChip.{Matches, Wired, uncut}
use Rattle.chip.specs.declared.Chip.{Chip}
use Rattle.model.specs.Balance.{enough, new_registers, brought, set_on, FirstNew}
use Rattle.runs.specs.Calls as runs
use Rattle.runs.specs.Calls.{Call, OnEveryChip, Calls, one_more, most_of, on, left_by, ByItsLog, Alike}
use Rattle.firmware.specs.Handed.{one_number, no_number}
use Rattle.firmware.specs.JobBalance.{record_of, job_balance_set}
use Rattle.recovered.specs.ForC.{Told, telling, link_of}

module _ (device : List ℕ) (set limit : ℕ) where
  -- what it does and tells
  abbrev pub set_for_c : Prog Told
  set_for_c =
      telling (λ a. record { number = number_of (no_number a); numbers = one_number (no_number a) })
      (job_balance_set device set limit)

  -- a call on a chip and its wire, and such calls, one after another, each on a wire of its own, cut anywhere
  abbrev pub Run : Wired → Call Told → Type 0
  Run w call = runs.Run set_for_c enough w call

  abbrev pub Sets : Chip → Chip → Type 0
  Sets c c' = Calls set_for_c enough c c'

  -- on sound buses a call ends alike on either of two chips
  abbrev pub EndsAlike : Chip → Chip → Type 0
  EndsAlike c c' = (a b : Call Told) → Run (uncut c) a → Run (uncut c') b → Alike (uncut c) (uncut c') a b

-- the registers that are new, and how many of them come by a wire: none where the bytes name no device
module _ (set limit : ℕ) where
  abbrev pub new_for : Answer BQ769x0 → List ℕ
  new_for (value d) = new_registers d set limit
  new_for (refused r) = []

  abbrev pub brought_by : Answer BQ769x0 → (ℕ → Option ℕ) → ℕ
  brought_by (value d) cuts = brought d set limit cuts
  brought_by (refused r) cuts = 0

-- What calls leave on the chip, cut anywhere and any number of them, and what comes of the next one on a sound bus.
pub record Recovers (device : List ℕ) (set limit : ℕ) {c c' : Chip} (calls : Sets device set limit c c') : Type 0 where
  -- of the new registers there are as many as one of the calls brought at most
  pub left : FirstNew (new_for set limit (record_of device)) (most_of (brought_by set limit (record_of device)) calls) c c'
  -- with the same set and limit, and with any others that are allowed, it ends as it would have at first
  pub again : EndsAlike device set limit c' c
  pub anew : (set' limit' : ℕ) → allowed (device_of device).x set' limit' ≡ value tt → EndsAlike device set' limit' c' c

-- One call with a device, on a chip and a wire that is cut anywhere.
pub record Survives (device : List ℕ) (set limit : ℕ) (call : Call Told) (c : Chip) (cuts : ℕ → Option ℕ) : Type 0 where
  pub run : Run device set limit (on c cuts) call
  pub by_log : ByItsLog (set_for_c device set limit) (on c cuts) call
  -- where it returned 0, the chip has the set on
  pub set_on_is : Matches (link_of device) c → call.gave.number ≡ 0 → set_on (device_of device).x (left_by (on c cuts) call) ≡ set
  -- whatever calls came before it, from a chip that has the device's address and check setting
  pub recovers : {c₀ : Chip} → Matches (link_of device) c₀ → (calls : Sets device set limit c₀ c)
      → Recovers device set limit (one_more calls cuts call run)

-- Demand 3 of one call, whatever chip answers it, on whatever wire.
abbrev pub Demand3 : List ℕ → ℕ → ℕ → Call Told → Type 0
Demand3 device set limit call = OnEveryChip (set_for_c device set limit) enough call (Survives device set limit call)
