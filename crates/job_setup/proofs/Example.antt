-- The scope's example: its job on its tape, without checks, gives its values, its record, and its log byte for byte.
-- Assumes nothing.
use mathlib.Core.Path.{◌≡◌, refl}
use Prim.Native.Nat.{ℕ}
use mathlib.Core.List.{List, [], ◌∷◌}
use lib.ListN.{replicate}
use Rattle.refusals.specs.Refusal.{value}
use Rattle.protection.specs.Ranges.{range_for, code_for}
use Rattle.protection.specs.Steps.{step, mv_across}
use Rattle.frames.specs.Frames.{write_frame, framed}
use Rattle.frames.specs.Put.{put}
use Rattle.plan.specs.Order.{◌and_then◌}
use Rattle.plan.specs.Plan.{set_for, plan_for}
use Rattle.plan.specs.Registers.{protect_for}
use Rattle.plan.specs.Steps.{shunt_for, steps_for}
use Rattle.plan.specs.Trips.{trip_code_for, obtainable_or, within_for}
use Rattle.job.specs.Jobs.{is_device, codes_at, is_config, field_for, job_of}
use Rattle.fields.specs.Fields.{field, unfield}
use Rattle.bus.specs.Transfers.{log_field, tape_field, wanted, untape, says, start, bus_of}
use Rattle.bus.specs.Transfers.{moved, after, answered, outcome}
use Rattle.bus.specs.Programs.{ran, on_tape, bind, proceed, ◌>>=◌}
use Rattle.bus.specs.Raw.{plainly, plain_read, read_raw, read_bytes}
use Rattle.bus.specs.Raw.{wrote, ask_write, send, compared, verified, ask_back, write_raw}
use Rattle.bq769x0.specs.Record.{device_allowed, leaves, new_for, is_sound}
use Rattle.bq769x0.specs.Registers.{soundly}
use Rattle.procedure.specs.Calibrate.{calibrate}
use Rattle.procedure.specs.Init.{onward_by, onward, start_counter, protect, init_by}
use Rattle.procedure.proofs.Examples.{tape, log, values, done}
use Rattle.job_setup.specs.JobInit.{job_init}

abbrev job : List ℕ
job =
    0x20 ∷ 0 ∷ 4 ∷ 5 ∷ 5 ∷ 8 ∷ 0 ∷
    0x21 ∷ 0 ∷ 24 ∷
    0x00 ∷ 0x00 ∷ 0x03 ∷ 0xE8 ∷
    0x00 ∷ 0x00 ∷ 0x00 ∷ 0x32 ∷
    0x00 ∷ 0x00 ∷ 0x00 ∷ 0x14 ∷
    0x00 ∷ 0x00 ∷ 0x0A ∷ 0xF0 ∷
    0x00 ∷ 0x00 ∷ 0x10 ∷ 0x68 ∷
    0x02 ∷ 0x05 ∷ 0x01 ∷ 0x01 ∷
    []

pub example :
    on_tape (job_init job) (bus_of tape (replicate 52 0) start)
    ≡ ran (leaves (value values) done) tape log (record { tape = 32; log = 52 })
unfolding
    job_init job_of field_for is_device is_config codes_at
    device_allowed new_for is_sound soundly calibrate onward_by onward start_counter protect init_by
    ◌and_then◌ set_for plan_for protect_for shunt_for steps_for trip_code_for obtainable_or within_for
    step mv_across range_for code_for
    on_tape bind ◌>>=◌ proceed read_bytes read_raw plain_read plainly
    wrote ask_write send compared verified ask_back write_raw write_frame framed
    field unfield log_field tape_field wanted untape says moved after answered outcome put
example = refl
