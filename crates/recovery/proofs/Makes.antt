-- An `init` makes at most seven transfers, whatever they are answered.
-- Assumes nothing.
use mathlib.Core.Bool.{not}
use Rattle.refusals.specs.Refusal.{Answer, value, refused}
use Rattle.plan.specs.Steps.{InMv}
use Rattle.plan.specs.Plan.{Values}
use Rattle.plan.specs.declared.Config.{Config}
use Rattle.bq769x0.specs.Record.{Left, is_sound}
use Rattle.bq769x0.specs.Registers.{soundly}
use Rattle.bq769x0.specs.declared.BQ769x0.{BQ769x0}
use Rattle.procedure.specs.Calibrate.{calibrate}
use Rattle.procedure.specs.Init.{onward, onward_by, start_counter, protect, init_by}
use Rattle.chip.proofs.Makes.{Makes, no_more, makes_bind, makes_call, makes_pure, makes_if, makes_read, makes_write}

module _ (d : BQ769x0) where
  calibrate_makes : Makes 2 (calibrate d)
  unfolding calibrate
  calibrate_makes =
      makes_call _ _ 1 1 (makes_read d.link 0x50 2) λ first.
      makes_call _ _ 1 0 (makes_read d.link 0x59 1) λ second.
      no_more

  start_counter_makes : (values : Values) → Makes 3 (start_counter d values)
  unfolding start_counter
  start_counter_makes values =
      makes_call _ _ 1 2 (makes_read d.link 5 1) λ byte.
      makes_call _ _ 2 0 (makes_write d.link 5 _) λ x.
      no_more

protect_makes : (config : Config) (steps : InMv) (d : BQ769x0) → Makes 5 (protect config steps d)
unfolding protect
protect_makes config steps d =
    makes_pure _ _ 5 _ λ plan e.
    makes_call _ _ 2 3 (makes_write d.link 6 plan.regs) λ x.
    start_counter_makes _ plan.values

onward_makes : {A : Type 0} (config : Config) (steps : InMv) (left : Left A) → Makes 5 (onward (protect config steps) left)
unfolding onward onward_by
onward_makes {A} config steps left = by left.answer
  where
    by : (y : Answer A) → Makes 5 (onward_by (protect config steps) left.device y)
    by (value a) = protect_makes config steps left.device
    by (refused r) = no_more

pub init_makes : (choose : Config → Answer InMv) (config : Config) (d : BQ769x0) → Makes 7 (init_by choose d config)
unfolding init_by soundly
init_makes choose config d =
    makes_if (not (is_sound d)) no_more
    (makes_pure _ _ 7 (choose config) λ steps e.
    makes_bind 2 5 (onward (protect config steps)) (calibrate_makes d) (onward_makes config steps))
