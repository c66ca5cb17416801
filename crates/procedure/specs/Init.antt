-- Setting up, as a program beside the crate's `init`, in three stages; each `or_leave` is one `?`, and names the record that a refusal leaves.
-- Assumes nothing.
use Rattle.std.specs.Prelude.{[], ◌∷◌, get_or}
use Rattle.std.specs.Int.Bits.{bit_or}
use Rattle.refusals.specs.Refusal.{Answer, value, refused, nine}
use Rattle.plan.specs.Steps.{InMv}
use Rattle.plan.specs.Plan.{Values, plan_for}
use Rattle.plan.specs.declared.Config.{Config}
use Rattle.bus.specs.Programs.{Prog, ret, bind, ◌or_leave◌, ◌>>=◌}
use Rattle.bus.specs.Raw.{read_bytes, write_raw}
use Rattle.bq769x0.specs.Record.{Left, leaves, leaving, with_shunt}
use Rattle.bq769x0.specs.Registers.{soundly}
use Rattle.procedure.specs.Calibrate.{calibrate}
use Rattle.bq769x0.specs.declared.BQ769x0.{BQ769x0}

-- a stage, and the next one on the record that it leaves
unfoldable pub onward_by : {A B : Type 0} → (BQ769x0 → Prog (Left B)) → BQ769x0 → Answer A → Prog (Left B)
onward_by f d (value a) = f d
onward_by f d (refused r) = ret (leaving d r)

unfoldable pub onward : {A B : Type 0} → (BQ769x0 → Prog (Left B)) → Left A → Prog (Left B)
onward f left = onward_by f left.device left.answer

-- 05 as it was read, with bit 6, which lets the counter run
unfoldable pub start_counter : BQ769x0 → Values → Prog (Left Values)
start_counter d values = do
  byte ← read_bytes d.link 0x05 1 or_leave leaving d
  _ ← write_raw d.link 0x05 (bit_or (get_or byte 0 0) 0b0100_0000 ∷ []) or_leave leaving d
  ret (leaves (value values) d)

-- the six bytes; once they are written the shunt and the mark are stored, whatever becomes of 05
unfoldable pub protect : Config → InMv → BQ769x0 → Prog (Left Values)
protect config steps d = do
  plan ← ret (plan_for d.adc.gain d.adc.offset config steps.scd steps.ocd) or_leave leaving d
  _ ← write_raw d.link 0x06 plan.regs or_leave leaving d
  start_counter (with_shunt d config.shunt) plan.values

-- a sound record set up, whatever way the steps are chosen
abbrev pub set_up : (Config → Answer InMv) → BQ769x0 → Config → Prog (Left Values)
set_up choose d config = do
  steps ← ret (choose config) or_leave leaving d
  bind (calibrate d) (onward (protect config steps))

-- and 9 where it is not sound
unfoldable pub init_by : (Config → Answer InMv) → BQ769x0 → Config → Prog (Left Values)
init_by choose d config = soundly d (leaving d nine) (set_up choose d config)
