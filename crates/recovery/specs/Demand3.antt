-- Demand 3: what calls of `init` leave where the bus fails them, and that it can be done again.
-- Assumes nothing.
use Rattle.std.specs.Prelude.{◌≡◌, true, false, ℕ}
use Rattle.std.proofs.Math.Option.{Option}
use Rattle.refusals.specs.Refusal.{Refusal, Answer, value, refused}
use Rattle.check_byte.specs.CheckByte.{Bytes}
use Rattle.plan.specs.Steps.{InMv, steps_for}
use Rattle.plan.specs.Plan.{Planned}
use Rattle.plan.specs.declared.Config.{Config}
use Rattle.laws.specs.Choice.{when◌then◌else◌}
use Rattle.bq769x0.specs.Record.{accepts, is_sound, with_calibration}
use Rattle.bq769x0.specs.declared.BQ769x0.{BQ769x0}
use Rattle.procedure.specs.Init.{init_by}
use Rattle.chip.specs.OnChip.{uncut}
use Rattle.chip.specs.declared.Chip.{Chip}
use Rattle.runs.specs.Calls.{OnEveryChip, on, left_by, ByItsLog, Alike}
use Rattle.recovery.specs.Recovery.{calibration_of, plan_on, Leaves}
use Rattle.recovery.specs.Runs.{enough, Call, Run, Runs, one_more, new_of}

module _ {choose : Config → Answer InMv} {config : Config} {c : Chip} {d d' : BQ769x0} {c' : Chip}
    (runs : Runs choose config c d d' c') where
  -- A call on a sound bus then, with some configuration, for a sound record, ends as it would have at first.
  abbrev pub AsAtFirst : Config → Type 0
  AsAtFirst other =
      is_sound d ≡ true
      → (second first : Call) → Run choose other d' (uncut c') second → Run choose other d (uncut c) first
      → Alike (uncut c') (uncut c) second first

  -- A call on a sound bus then, with a configuration that is refused, is refused so, and changes no register; the record's calibration
  -- is read where the steps could be chosen.
  pub record Refuses (other : Config) (r : Refusal) (call : Call) : Type 0 where
    pub answer : call.gave.answer ≡ refused r
    pub device : call.gave.device ≡ (when accepts (choose other) then with_calibration d' (calibration_of c) else d')
    pub chip : left_by (uncut c') call ≡ c'

  -- What runs leave, cut anywhere and any number of them, and what comes of the next one.
  pub record Recovers : Type 0 where
    pub left : Leaves choose config d c (new_of runs) d' c'
    -- a record not yet initialised says initialised only with all six new
    pub only_marked : d.init_complete ≡ false → d'.init_complete ≡ true → new_of runs ≡ 6
    -- registers that were bytes are bytes
    pub bytes : Bytes c.regs → Bytes c'.regs
    -- with the same configuration, and with any other that is accepted
    pub again : AsAtFirst config
    pub anew : (other : Config) (plan : Planned) → plan_on choose other c ≡ value plan → AsAtFirst other
    -- and with one that is refused
    pub refuses : is_sound d ≡ true → (other : Config) (r : Refusal) → plan_on choose other c ≡ refused r
        → (call : Call) → Run choose other d' (uncut c') call → Refuses other r call

-- One call for a record, on a chip and a wire that is cut anywhere.
pub record Survives (config : Config) (d : BQ769x0) (call : Call) (c : Chip) (cuts : ℕ → Option ℕ) : Type 0 where
  pub run : Run steps_for config d (on c cuts) call
  pub by_log : ByItsLog (init_by steps_for d config) (on c cuts) call
  -- where the record is not sound nothing changes
  pub unsound : is_sound d ≡ false → (call.gave.device ≡ d) × (left_by (on c cuts) call ≡ c)
  -- whatever runs came before it
  pub recovers : {c₀ : Chip} {d₀ : BQ769x0} (runs : Runs steps_for config c₀ d₀ d c) → Recovers (one_more runs cuts call run)

-- Demand 3 of one call, whatever chip answers it, on whatever wire.
abbrev pub Demand3 : Config → BQ769x0 → Call → Type 0
Demand3 config d call = OnEveryChip (init_by steps_for d config) (enough d.link.check) call (Survives config d call)
