-- A cut can leave more inputs on than the limit, in either build: a BQ76930 has input 6 on and is to have input 1 on instead, with a limit of 1;
-- the write is cut when 01 has come and 02 has not, and both are on.
-- Assumes nothing.
use mathlib.Core.Path.{◌≡◌, refl, ap, ◌∙◌}
use mathlib.Core.Bool.{Bool, true, false, cond}
use mathlib.Core.List.{List, [], ◌∷◌, ◌++◌}
use mathlib.Core.Option.{Option, none, some}
use Prim.Native.Nat.{ℕ, ◌-◌, ◌≤◌, ◌<◌}
use native.Mathlib.Omega.{arith}
use lib.Count.{ones, ones_in}
use lib.Dec.{eqb}
use lib.ListN.{length, replicate}
use Rattle.refusals.specs.Refusal.{Answer, refused, no}
use Rattle.cellbal.specs.Rules.{not_on_device, neighbours, too_many, allowed}
use Rattle.cellbal.specs.Registers.{registers_for, set_of}
use Rattle.check_byte.specs.CheckByte.{check_byte, divide, line, coefficient, divisor, number}
use Rattle.frames.specs.Frames.{read_byte, write_byte, checked, write_frame, framed}
use Rattle.frames.specs.Put.{put}
use Rattle.fields.specs.Fields.{field, unfield}
use Rattle.bus.specs.Transfers.{log_field, tape_field, wanted, untape, says, start, moved, after, answered, outcome}
use Rattle.bus.specs.Programs.{on_tape, bind, proceed, ◌>>=◌}
use Rattle.bus.specs.Raw.{Done, wrote, ask_write, send, write_raw}
use Rattle.bq769x0.specs.Record.{device_allowed, fresh, is_sound}
use Rattle.bq769x0.specs.Registers.{soundly}
use Rattle.bq769x0.specs.declared.BQ769x0.{BQ769x0}
use Rattle.commands.specs.Commands.{balance_set}
use Rattle.chip.specs.Devices.{tape_of}
use Rattle.chip.specs.Chip as chip
use Rattle.chip.specs.Chip.{zeros, begun, complete, arrives, stores, agreed, accepted, stored_of, written, acknowledged, held, answers, carried}
use Rattle.chip.specs.Chip.{respond_cut}
use Rattle.chip.specs.OnChip.{Matches, on_wire}
use Rattle.chip.specs.declared.Chip.{Chip}
use Rattle.runs.specs.Calls.{Call, on, none_yet, one_more, most_of, left_by}
use Rattle.model.specs.Balance.{enough, new_registers, brought, chip_left, Run, Sets, set_on}
use Rattle.model.proofs.Balance.{recovers}

-- ---- a BQ76930 of 10 cells at address 8, with input 6 on; the write is cut behind the first byte and, with checks, its check byte
abbrev device : Bool → BQ769x0
device check = fresh 10 8 10 check

abbrev with_6 : Bool → Chip
with_6 check = chip.with_reg (chip.fresh 8 check) 0x02 0b00001

abbrev cuts : Bool → ℕ → Option ℕ
cuts check n = cond (eqb n 0) (some (cond check 3 2)) none

abbrev log : Bool → List ℕ
log false = 0x11 ∷ 0 ∷ 4 ∷ 8 ∷ 0x01 ∷ 0b00001 ∷ 0b00000 ∷ []
log true = 0x11 ∷ 0 ∷ 6 ∷ 8 ∷ 0x01 ∷ 0b00001 ∷ 0xB0 ∷ 0b00000 ∷ 0x00 ∷ []

abbrev call : Bool → Call (Answer Done)
call check = record {
  tape = 0x02 ∷ 0 ∷ 0 ∷ [];
  log = replicate enough 0;
  at = start;
  gave = refused (no 2 []);
  log' = log check ++ replicate (enough - length (log check)) 0;
  at' = record { tape = 3; log = length (log check) };
}

-- ---- input 1 alone is asked for, with a limit of 1
run : (check : Bool) → Run (device check) 0b00001 1 (on (with_6 check) (cuts check)) (call check)
unfolding
    tape_of on_wire respond_cut answers carried acknowledged written stored_of accepted agreed complete begun stores arrives zeros
    read_byte write_byte checked check_byte divide line coefficient divisor number
    device_allowed is_sound soundly balance_set allowed not_on_device neighbours too_many ones ones_in registers_for
    on_tape bind ◌>>=◌ proceed wrote ask_write send write_raw write_frame framed
    field unfield log_field tape_field wanted untape says moved after answered outcome put
run false = record { rest = []; answers = refl; room = omega arith; promise = refl }
run true = record { rest = []; answers = refl; room = omega arith; promise = refl }

matches : (check : Bool) → Matches (device check).link (with_6 check)
unfolding zeros
matches check = record { address = refl; check = refl; size = refl }

-- 01 has come, and 02 is old
unfoldable cut_once : (check : Bool) → Sets (device check) 0b00001 1 (with_6 check) (left_by (on (with_6 check) (cuts check)) (call check))
cut_once check = one_more none_yet (cuts check) (call check) (run check)

one_new : (check : Bool) → most_of (brought (device check) 0b00001 1) (cut_once check) ≡ 1
unfolding cut_once most_of complete device_allowed is_sound allowed not_on_device neighbours too_many ones ones_in registers_for
one_new false = refl
one_new true = refl

left : (check : Bool)
    → left_by (on (with_6 check) (cuts check)) (call check) ≡ chip_left (new_registers (device check) 0b00001 1) (with_6 check) 1
left check =
    (recovers (device check) 0b00001 1 (with_6 check) (matches check) (cut_once check)).left.chip
    ∙ ap (chip_left (new_registers (device check) 0b00001 1) (with_6 check)) (one_new check)

before_is : (check : Bool) → set_on 10 (with_6 check) ≡ 0b00001_00000
unfolding set_of held zeros
before_is check = refl

left_is : (check : Bool) → set_on 10 (chip_left (new_registers (device check) 0b00001 1) (with_6 check) 1) ≡ 0b00001_00001
unfolding set_of held zeros put device_allowed is_sound allowed not_on_device neighbours too_many ones ones_in registers_for
left_is false = refl
left_is true = refl

-- ---- so a run, from a chip that has no more inputs on than the limit, leaves one that has
pub over_limit : (check : Bool)
    → Run (device check) 0b00001 1 (on (with_6 check) (cuts check)) (call check)
    × (ones (set_on 10 (with_6 check)) ≤ 1)
    × (1 < ones (set_on 10 (left_by (on (with_6 check) (cuts check)) (call check))))
unfolding ones ones_in
over_limit check = (run check, rw (before_is check) (omega arith), rw (left check, left_is check) (omega arith))
