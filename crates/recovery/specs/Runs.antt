-- Calls of the code's `init` on a chip, one after another.
-- Assumes nothing.
use Rattle.std.specs.Prelude.{Bool, ℕ, max}
use Rattle.std.proofs.Math.Option.{Option}
use Rattle.refusals.specs.Refusal.{Answer}
use Rattle.plan.specs.Steps.{InMv}
use Rattle.plan.specs.Plan.{Values}
use Rattle.plan.specs.declared.Config.{Config}
use Rattle.laws.specs.Choice.{when◌then◌else◌}
use Rattle.bq769x0.specs.Record.{Left}
use Rattle.bq769x0.specs.declared.BQ769x0.{BQ769x0}
use Rattle.procedure.specs.Init.{init_by}
use Rattle.chip.specs.OnChip.{Matches, Wired}
use Rattle.chip.specs.declared.Chip.{Chip}
use Rattle.runs.specs.Calls as runs
use Rattle.runs.specs.Calls.{on, left_by}
use Rattle.recovery.specs.Recovery.{six, brought}

-- enough log
abbrev pub enough : Bool → ℕ
enough check = when check then 45 else 52

-- a call gives an answer, and the record then
abbrev pub Call : Type 0
Call = runs.Call (Left Values)

-- a call for a record, on a chip and its wire
abbrev pub Run : (Config → Answer InMv) → Config → BQ769x0 → Wired → Call → Type 0
Run choose config d w call = runs.Run (init_by choose d config) (enough d.link.check) w call

-- Runs with one configuration from chip c on, each on a wire of its own, cut anywhere. Each is for the record and on the chip that the one
-- before has left; or the record is lost, and another one for the chip, new or as it was at first, takes its place. The indices are the
-- record that was begun with last, and the record and the chip now.
pub data Runs (choose : Config → Answer InMv) (config : Config) (c : Chip) : BQ769x0 → BQ769x0 → Chip → Type 0 where
  none_yet : {d : BQ769x0} → Matches d.link c → Runs choose config c d d c
  one_more : {d d' : BQ769x0} {c' : Chip} → Runs choose config c d d' c'
      → (cuts : ℕ → Option ℕ) (call : Call) → Run choose config d' (on c' cuts) call
      → Runs choose config c d call.gave.device (left_by (on c' cuts) call)
  lost : {d d' : BQ769x0} {c' : Chip} → Runs choose config c d d' c'
      → (e : BQ769x0) → Matches e.link c → Runs choose config c e e c'

-- of the six so many are new: the most that one of the runs brought
unfoldable pub new_of : {choose : Config → Answer InMv} {config : Config} {c : Chip} {d d' : BQ769x0} {c' : Chip}
    → Runs choose config c d d' c' → ℕ
new_of (none_yet m) = 0
new_of {choose} {config} {c} (one_more {d' = d'} runs cuts call run) = max (new_of runs) (brought d' cuts (six choose config c))
new_of (lost runs e m) = new_of runs
