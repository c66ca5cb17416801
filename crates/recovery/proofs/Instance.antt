-- An instance: the scope's example on a fresh chip, its six bytes cut after four bytes on the wire, in either build, and once more on a sound
-- bus. All that is asked of a run is met; of the six bytes three are new without checks, and one with them.
-- Assumes nothing.
use mathlib.Core.Path.{◌≡◌, refl, sym, ap, ◌∙◌}
use mathlib.Core.Bool.{Bool, true, false, cond}
use mathlib.Core.List.{List, [], ◌∷◌, ◌++◌}
use mathlib.Core.Option.{Option, none, some}
use Prim.Native.Nat.{ℕ, ◌-◌}
use native.Mathlib.Omega.{arith}
use lib.Dec.{eqb}
use lib.IntN.{pos}
use lib.ListN.{length, replicate}
use Rattle.refusals.specs.Refusal.{value, no}
use Rattle.protection.specs.Ranges.{range_for, code_for}
use Rattle.protection.specs.Steps.{step, mv_across}
use Rattle.protection.specs.declared.range.OCDSCDRange.TheVariants as R
use Rattle.check_byte.specs.CheckByte.{check_byte, divide, line, coefficient, divisor, number}
use Rattle.frames.specs.Frames.{read_byte, write_byte, checked, right, data_of, write_frame, read_frame, framed}
use Rattle.frames.specs.Put.{put}
use Rattle.plan.specs.Order.{◌and_then◌}
use Rattle.plan.specs.Plan.{set_for, plan_for}
use Rattle.plan.specs.Registers.{protect_for}
use Rattle.plan.specs.Steps.{shunt_for, steps_for}
use Rattle.plan.specs.Trips.{trip_code_for, obtainable_or, within_for}
use Rattle.fields.specs.Fields.{field, unfield}
use Rattle.bus.specs.Transfers.{log_field, tape_field, wanted, untape, says, start, moved, after, answered, outcome}
use Rattle.bus.specs.Programs.{on_tape, bind, proceed, ◌>>=◌}
use Rattle.bus.specs.Raw.{plainly, received, where_right, checkedly, plain_read, ask_frame, checked_read, read_raw, read_bytes}
use Rattle.bus.specs.Raw.{wrote, ask_write, send, compared, verified, ask_back, write_raw}
use Rattle.bq769x0.specs.Record.{leaves, leaving, device_allowed, fresh, is_sound, with_calibration, with_shunt}
use Rattle.bq769x0.specs.Registers.{soundly}
use Rattle.bq769x0.specs.declared.BQ769x0.{BQ769x0}
use Rattle.procedure.specs.Calibrate.{calibrate}
use Rattle.procedure.specs.Init.{onward_by, onward, start_counter, protect, init_by}
use Rattle.procedure.proofs.Examples as Examples
use Rattle.procedure.proofs.Examples.{config}
use Rattle.chip.specs.Devices.{tape_of}
use Rattle.chip.specs.Chip as chip
use Rattle.chip.specs.Chip.{zeros, begun, complete, arrives, stores, agreed, accepted, stored_of, written, acknowledged}
use Rattle.chip.specs.Chip.{held, shows, answers, carried, respond_cut}
use Rattle.chip.specs.OnChip.{Matches, Wired, uncut, on_wire}
use Rattle.chip.specs.declared.Chip.{Chip}
use Rattle.recovery.specs.Recovery.{plan_on, chip_left}
use Rattle.runs.specs.Calls.{on, left_by}
use Rattle.recovery.specs.Runs.{Call, enough, Run, none_yet, one_more, new_of}
use Rattle.recovery.proofs.Demand3.{recovers}

-- ---- a BQ76920 of 5 cells at address 8, and its chip; the third transfer is cut after four bytes
abbrev device : Bool → BQ769x0
device check = fresh 5 8 5 check

abbrev cuts : ℕ → Option ℕ
cuts n = cond (eqb n 2) (some 4) none

abbrev wired : Bool → Wired
wired check = on (chip.fresh 8 check) cuts

-- ---- the tape that the chip answers, and the log
abbrev tape : Bool → List ℕ
tape false = 0x01 ∷ 0 ∷ 2 ∷ 0x00 ∷ 0x00 ∷ 0x01 ∷ 0 ∷ 1 ∷ 0x00 ∷ 0x02 ∷ 0 ∷ 0 ∷ []
tape true = 0x01 ∷ 0 ∷ 4 ∷ 0x00 ∷ 0x42 ∷ 0x00 ∷ 0x00 ∷ 0x01 ∷ 0 ∷ 2 ∷ 0x00 ∷ 0x42 ∷ 0x02 ∷ 0 ∷ 0 ∷ []

abbrev log : Bool → List ℕ
log false =
    0x12 ∷ 0 ∷ 4 ∷ 8 ∷ 0x50 ∷ 0 ∷ 2 ∷
    0x12 ∷ 0 ∷ 4 ∷ 8 ∷ 0x59 ∷ 0 ∷ 1 ∷
    0x11 ∷ 0 ∷ 8 ∷ 8 ∷ 0x06 ∷ 0x13 ∷ 0x55 ∷ 0x50 ∷ 0xCF ∷ 0xDF ∷ 0x19 ∷
    []
log true =
    0x12 ∷ 0 ∷ 4 ∷ 8 ∷ 0x50 ∷ 0 ∷ 4 ∷
    0x12 ∷ 0 ∷ 4 ∷ 8 ∷ 0x59 ∷ 0 ∷ 2 ∷
    0x11 ∷ 0 ∷ 14 ∷ 8 ∷ 0x06 ∷
    0x13 ∷ 0xA5 ∷ 0x55 ∷ 0xAC ∷ 0x50 ∷ 0xB7 ∷ 0xCF ∷ 0x63 ∷ 0xDF ∷ 0x13 ∷ 0x19 ∷ 0x4F ∷
    []

-- 2, and the record calibrated
abbrev call : Bool → Call
call check = record {
  tape = tape check;
  log = replicate (enough check) 0;
  at = start;
  gave = leaving (with_calibration (device check) (record { gain = 365; offset = pos 0 })) (no 2 []);
  log' = log check ++ replicate (enough check - length (log check)) 0;
  at' = record { tape = length (tape check); log = length (log check) };
}

-- ---- once more, on a sound bus: as it would have been at first
abbrev whole_tape : Bool → List ℕ
whole_tape false = Examples.tape
whole_tape true =
    0x01 ∷ 0 ∷ 4 ∷ 0x00 ∷ 0x42 ∷ 0x00 ∷ 0x00 ∷ 0x01 ∷ 0 ∷ 2 ∷ 0x00 ∷ 0x42 ∷
    0x01 ∷ 0 ∷ 0 ∷
    0x01 ∷ 0 ∷ 2 ∷ 0x00 ∷ 0x42 ∷ 0x01 ∷ 0 ∷ 0 ∷
    []

abbrev whole_log : Bool → List ℕ
whole_log false = Examples.log
whole_log true = log true ++ (0x12 ∷ 0 ∷ 4 ∷ 8 ∷ 0x05 ∷ 0 ∷ 2 ∷ 0x11 ∷ 0 ∷ 4 ∷ 8 ∷ 0x05 ∷ 0x40 ∷ 0x24 ∷ [])

abbrev whole : Bool → Call
whole check = record {
  tape = whole_tape check;
  log = replicate (enough check) 0;
  at = start;
  gave =
      leaves (value (record { range = R.Lower; scd = 56; ocd = 22; uv = pos 2797; ov = pos 4201 }))
      (with_shunt (call check).gave.device (record { 0 = 1000 }));
  log' = whole_log check;
  at' = record { tape = length (whole_tape check); log = length (whole_log check) };
}

-- on the fresh chip, and on the one that is left
abbrev left : Bool → Chip
left check = chip.with_regs (chip.fresh 8 check) (put zeros 0x06 (cond check (0x13 ∷ []) (0x13 ∷ 0x55 ∷ 0x50 ∷ [])))

-- ---- these are runs, of a sound record and its chip
pub instances : (check : Bool)
    → Run steps_for config (device check) (wired check) (call check)
    × Run steps_for config (device check) (uncut (chip.fresh 8 check)) (whole check)
    × Run steps_for config (call check).gave.device (uncut (left check)) (whole check)
unfolding
    tape_of on_wire respond_cut answers carried acknowledged written stored_of accepted agreed complete begun stores arrives shows held zeros
    read_frame read_byte write_byte checked right data_of check_byte divide line coefficient divisor number
    device_allowed is_sound soundly calibrate onward_by onward start_counter protect init_by
    ◌and_then◌ set_for plan_for protect_for shunt_for steps_for trip_code_for obtainable_or within_for
    step mv_across range_for code_for
    on_tape bind ◌>>=◌ proceed read_bytes read_raw plain_read plainly checked_read ask_frame checkedly received where_right
    wrote ask_write send compared verified ask_back write_raw write_frame framed
    field unfield log_field tape_field wanted untape says moved after answered outcome put
instances false = (
  record { rest = []; answers = refl; room = omega arith; promise = refl },
  record { rest = []; answers = refl; room = omega arith; promise = refl },
  record { rest = []; answers = refl; room = omega arith; promise = refl },
)
instances true = (
  record { rest = []; answers = refl; room = omega arith; promise = refl },
  record { rest = []; answers = refl; room = omega arith; promise = refl },
  record { rest = []; answers = refl; room = omega arith; promise = refl },
)

pub instance_sound : (check : Bool) → is_sound (device check) ≡ true
unfolding is_sound device_allowed
instance_sound false = refl
instance_sound true = refl

pub instance_matches : (check : Bool) → Matches (device check).link (chip.fresh 8 check)
unfolding zeros
instance_matches check = record { address = refl; check = refl; size = refl }

-- ---- three new, or one
abbrev some_new : Bool → ℕ
some_new check = cond check 1 3

pub instance_new : (check : Bool) → new_of (one_more (none_yet (instance_matches check)) cuts (call check) (instances check).0) ≡ some_new check
unfolding
    new_of complete zeros plan_on device_allowed is_sound
    ◌and_then◌ set_for plan_for protect_for shunt_for steps_for trip_code_for obtainable_or within_for
    step mv_across range_for code_for
instance_new false = refl
instance_new true = refl

six_new : (check : Bool) → chip_left steps_for config (chip.fresh 8 check) false (some_new check) ≡ left check
unfolding
    plan_on zeros ◌and_then◌ set_for plan_for protect_for shunt_for steps_for trip_code_for obtainable_or within_for
    step mv_across range_for code_for
six_new false = refl
six_new true = refl

pub instance_left : (check : Bool) → left_by (wired check) (call check) ≡ left check
instance_left check =
    let l = (recovers (one_more (none_yet (instance_matches check)) cuts (call check) (instances check).0)).left in
    by l.on (λ e. sym (instance_new check) ∙ l.last e)
    (l.chip ∙ ap (chip_left steps_for config (chip.fresh 8 check) l.on) (instance_new check))
  where
    never : (check : Bool) → some_new check ≡ 6 → ⊥
    never false e = omega arith
    never true e = omega arith

    by : (on : Bool) → (on ≡ true → some_new check ≡ 6) → {c : Chip} → c ≡ chip_left steps_for config (chip.fresh 8 check) on (some_new check)
        → c ≡ left check
    by false last e = e ∙ six_new check
    by true last e = absurd (never check (last refl))
