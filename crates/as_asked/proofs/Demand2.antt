-- Demand 2 of `init`, for every run of the code by its promise: on every tape of bytes, every log and all positions its log reads back as
-- transfers, and what these and the tape show is what the configuration asks for.
-- Assumes nothing.
use Rattle.check_byte.specs.CheckByte.{Bytes}
use Rattle.plan.specs.Plan.{Values}
use Rattle.plan.specs.Steps.{steps_for}
use Rattle.plan.specs.declared.Config.{Config}
use Rattle.bus.specs.Lent.{LentBus, does}
use Rattle.bq769x0.specs.Record.{Left}
use Rattle.bq769x0.specs.declared.BQ769x0.{BQ769x0}
use Rattle.procedure.specs.Init.{init_by}
use Rattle.recovery.proofs.Asked.{init_fine}
use Rattle.as_asked.specs.Seen.{Shows}
use Rattle.as_asked.specs.Init.{Demand2}
use Rattle.as_asked.proofs.Shows.{shows}
use Rattle.as_asked.proofs.Stages.{init_seen}

module _ (d : BQ769x0) (config : Config) (bus : LentBus) (left : Left Values) where
  pub demand_2 : Bytes bus.entry.now.tape.now → does (init_by steps_for d config) bus left → Shows (Demand2 d.link config) bus left.answer
  demand_2 bytes promise =
      shows (Demand2 d.link config) (λ (l : Left Values). l.answer) (init_by steps_for d config) bus left promise
      (init_fine steps_for config d).short (init_seen d config) bytes
