-- Setting up by the scope's example, without checks: its record and its log byte for byte; what a fault leaves in the record, ahead of the
-- six bytes and after them; that 05 is written with what was read; and that a second init is made by the same transfers.
-- Assumes nothing.
use mathlib.Core.Path.{◌≡◌, refl}
use mathlib.Core.Bool.{false}
use mathlib.Core.List.{List, [], ◌∷◌, ◌++◌, map}
use Prim.Native.Nat.{ℕ, ◌-◌}
use lib.IntN.{pos}
use lib.ListN.{replicate}
use Rattle.refusals.specs.Refusal.{Answer, value, refused, no}
use Rattle.protection.specs.Ranges.{range_for, code_for}
use Rattle.protection.specs.Steps.{step, mv_across}
use Rattle.protection.specs.declared.range.OCDSCDRange.TheVariants as R
use Rattle.protection.specs.declared.delays.SCDDelay.TheVariants as SD
use Rattle.protection.specs.declared.delays.OCDDelay.TheVariants as OD
use Rattle.protection.specs.declared.delays.UVDelay.TheVariants as UD
use Rattle.protection.specs.declared.delays.OVDelay.TheVariants as VD
use Rattle.frames.specs.Frames.{write_frame, framed}
use Rattle.frames.specs.Put.{put}
use Rattle.plan.specs.Order.{◌and_then◌}
use Rattle.plan.specs.Plan.{Values, set_for, plan_for}
use Rattle.plan.specs.Registers.{protect_for}
use Rattle.plan.specs.Steps.{shunt_for, steps_for}
use Rattle.plan.specs.Trips.{trip_code_for, obtainable_or, within_for}
use Rattle.plan.specs.declared.Config.{Config}
use Rattle.fields.specs.Fields.{field, unfield}
use Rattle.bus.specs.Transfers.{log_field, tape_field, wanted, untape, says, start, bus_of}
use Rattle.bus.specs.Transfers.{moved, after, answered, outcome}
use Rattle.bus.specs.Programs.{Ran, ran, on_tape, bind, proceed, ◌>>=◌}
use Rattle.bus.specs.Raw.{plainly, plain_read, read_raw, read_bytes}
use Rattle.bus.specs.Raw.{wrote, ask_write, send, compared, verified, ask_back, write_raw}
use Rattle.bq769x0.specs.Record.{Left, device_allowed, fresh, leaves, is_sound, with_calibration, with_shunt}
use Rattle.bq769x0.specs.Registers.{soundly}
use Rattle.bq769x0.specs.declared.BQ769x0.{BQ769x0}
use Rattle.procedure.specs.Calibrate.{calibrate}
use Rattle.procedure.specs.Init.{onward_by, onward, start_counter, protect, init_by}

-- ---- a BQ76920 of 5 cells at address 8, and what it is asked for
abbrev device : BQ769x0
device = fresh 5 8 5 false

abbrev pub config : Config
config = record {
  shunt = record { 0 = 1000 };
  scd_delay = SD._200uS;
  scd_threshold = record { 0 = 50 };
  ocd_delay = OD._320ms;
  ocd_threshold = record { 0 = 20 };
  uv_delay = UD._4s;
  uv_threshold = record { 0 = pos 2800 };
  ov_delay = VD._2s;
  ov_threshold = record { 0 = pos 4200 };
}

-- ---- what the bus says: to the reads of 50 and 59, and to the writes of 06 and 05 with what stands before and after them
abbrev reads : List ℕ
reads = 0x01 ∷ 0 ∷ 2 ∷ 0x00 ∷ 0x00 ∷ 0x01 ∷ 0 ∷ 1 ∷ 0x00 ∷ []

abbrev six : List ℕ
six = 0x01 ∷ 0 ∷ 0 ∷ 0x01 ∷ 0 ∷ 6 ∷ 0x13 ∷ 0x55 ∷ 0x50 ∷ 0xCF ∷ 0xDF ∷ 0x19 ∷ []

abbrev counter : ℕ → ℕ → List ℕ
counter before after = 0x01 ∷ 0 ∷ 1 ∷ before ∷ 0x01 ∷ 0 ∷ 0 ∷ 0x01 ∷ 0 ∷ 1 ∷ after ∷ []

abbrev fault : List ℕ
fault = 0x02 ∷ 0 ∷ 0 ∷ []

abbrev pub tape : List ℕ
tape = reads ++ six ++ counter 0x00 0x40

-- ---- what the log has of it
abbrev reads_log : List ℕ
reads_log = 0x12 ∷ 0 ∷ 4 ∷ 8 ∷ 0x50 ∷ 0 ∷ 2 ∷ 0x12 ∷ 0 ∷ 4 ∷ 8 ∷ 0x59 ∷ 0 ∷ 1 ∷ []

abbrev write_log : List ℕ
write_log = 0x11 ∷ 0 ∷ 8 ∷ 8 ∷ 0x06 ∷ 0x13 ∷ 0x55 ∷ 0x50 ∷ 0xCF ∷ 0xDF ∷ 0x19 ∷ []

abbrev six_log : List ℕ
six_log = write_log ++ (0x12 ∷ 0 ∷ 4 ∷ 8 ∷ 0x06 ∷ 0 ∷ 6 ∷ [])

abbrev read05 : List ℕ
read05 = 0x12 ∷ 0 ∷ 4 ∷ 8 ∷ 0x05 ∷ 0 ∷ 1 ∷ []

abbrev counter_log : ℕ → List ℕ
counter_log byte = read05 ++ (0x11 ∷ 0 ∷ 3 ∷ 8 ∷ 0x05 ∷ byte ∷ []) ++ read05

abbrev pub log : List ℕ
log = reads_log ++ six_log ++ counter_log 0x40

-- ---- what is reported, and the record: gain 365, offset 0; then the shunt and the mark
abbrev pub values : Values
values = record { range = R.Lower; scd = 56; ocd = 22; uv = pos 2797; ov = pos 4201 }

abbrev calibrated : BQ769x0
calibrated = with_calibration device (record { gain = 365; offset = pos 0 })

abbrev pub done : BQ769x0
done = with_shunt calibrated (record { 0 = 1000 })

-- ---- the runs, each on its tape and a log of 52 bytes from the start, beside how it ends
abbrev Row : Type 0
Row = Ran (Left Values) × Ran (Left Values)

abbrev row : BQ769x0 → List ℕ → Answer Values → BQ769x0 → List ℕ → ℕ → ℕ → Row
row d said answer left logged used filled =
    let rest : List ℕ = replicate (52 - filled) 0 in (
      on_tape (init_by steps_for d config) (bus_of said (replicate 52 0) start),
      ran (leaves answer left) said (logged ++ rest) (record { tape = used; log = filled }),
    )

abbrev rows : List Row
rows =
    -- the scope's example
    row device tape (value values) done log 32 52 ∷
    -- a fault at the write of the six bytes: gain and offset are stored, shunt and mark are not
    row device (reads ++ fault) (refused (no 2 [])) calibrated (reads_log ++ write_log) 12 25 ∷
    -- a fault at the read of 05: shunt and mark are stored
    row device (reads ++ six ++ fault) (refused (no 2 [])) done (reads_log ++ six_log ++ read05) 24 39 ∷
    -- 05 is written with what was read, and bit 6
    row device (reads ++ six ++ counter 0x9F 0xDF) (value values) done (reads_log ++ six_log ++ counter_log 0xDF) 32 52 ∷
    -- a second init makes the same transfers
    row done tape (value values) done log 32 52 ∷
    []

-- the scope's example by its answer and record, then by its log; and all of them
abbrev scope : Ran (Left Values)
scope = on_tape (init_by steps_for device config) (bus_of tape (replicate 52 0) start)

pub examples : (scope.answer ≡ leaves (value values) done) × (scope.bus.log ≡ log)
    × (map (λ (e : Row). e.0) rows ≡ map (λ (e : Row). e.1) rows)
unfolding
    device_allowed is_sound soundly calibrate onward_by onward start_counter protect init_by
    ◌and_then◌ set_for plan_for protect_for shunt_for steps_for trip_code_for obtainable_or within_for
    step mv_across range_for code_for
    on_tape bind ◌>>=◌ proceed read_bytes read_raw plain_read plainly
    wrote ask_write send compared verified ask_back write_raw write_frame framed
    field unfield log_field tape_field wanted untape says moved after answered outcome put
examples = (refl, refl, refl)
