-- The scope's example of a setting up, as transfers alone: run on its tape, in both builds, with the log byte for byte.
-- Assumes nothing.
use mathlib.Core.Path.{◌≡◌, refl}
use mathlib.Core.Bool.{Bool, true, false}
use Prim.Native.Nat.{ℕ}
use mathlib.Core.List.{List, [], ◌∷◌, ◌++◌}
use lib.ListN.{replicate}
use Rattle.refusals.specs.Refusal.{Answer, value, refused}
use Rattle.check_byte.specs.CheckByte.{check_byte, divide, line, coefficient, divisor, number}
use Rattle.frames.specs.Frames.{read_byte, write_byte, checked, right, data_of, write_frame, read_frame, framed}
use Rattle.frames.specs.Put.{put}
use Rattle.fields.specs.Fields.{field, unfield}
use Rattle.bus.specs.Transfers.{done, bus_of}
use Rattle.bus.specs.Transfers.{log_field, tape_field, wanted, untape, says, moved, after, answered, outcome}
use Rattle.bus.specs.Programs.{Prog, ran, on_tape, bind, proceed, ◌or_leave◌, ◌>>=◌}
use Rattle.bus.specs.Raw.{Done, plainly, received, where_right, checkedly}
use Rattle.bus.specs.Raw.{plain_read, ask_frame, checked_read, read_raw, read_bytes}
use Rattle.bus.specs.Raw.{wrote, ask_write, send, compared, verified, ask_back, write_raw}
use Rattle.bus.specs.declared.link.Link.{Link}

link : Bool → Link
link check = record { address = 8; check = check; x = 5 }

example : Bool → Prog (Answer Done)
example check = do
  _ ← read_bytes (link check) 0x50 2 or_leave refused
  _ ← read_bytes (link check) 0x59 1 or_leave refused
  _ ← write_raw (link check) 0x06 (0x13 ∷ 0x55 ∷ 0x50 ∷ 0xCF ∷ 0xDF ∷ 0x19 ∷ []) or_leave refused
  _ ← read_bytes (link check) 0x05 1 or_leave refused
  write_raw (link check) 0x05 (0x40 ∷ [])

-- ---- without checks
plain_tape : List ℕ
plain_tape =
    0x01 ∷ 0 ∷ 2 ∷ 0x00 ∷ 0x00 ∷
    0x01 ∷ 0 ∷ 1 ∷ 0x00 ∷
    0x01 ∷ 0 ∷ 0 ∷
    0x01 ∷ 0 ∷ 6 ∷ 0x13 ∷ 0x55 ∷ 0x50 ∷ 0xCF ∷ 0xDF ∷ 0x19 ∷
    0x01 ∷ 0 ∷ 1 ∷ 0x00 ∷
    0x01 ∷ 0 ∷ 0 ∷
    0x01 ∷ 0 ∷ 1 ∷ 0x40 ∷
    []

plain_log : List ℕ
plain_log =
    0x12 ∷ 0 ∷ 4 ∷ 8 ∷ 0x50 ∷ 0 ∷ 2 ∷
    0x12 ∷ 0 ∷ 4 ∷ 8 ∷ 0x59 ∷ 0 ∷ 1 ∷
    0x11 ∷ 0 ∷ 8 ∷ 8 ∷ 0x06 ∷ 0x13 ∷ 0x55 ∷ 0x50 ∷ 0xCF ∷ 0xDF ∷ 0x19 ∷
    0x12 ∷ 0 ∷ 4 ∷ 8 ∷ 0x06 ∷ 0 ∷ 6 ∷
    0x12 ∷ 0 ∷ 4 ∷ 8 ∷ 0x05 ∷ 0 ∷ 1 ∷
    0x11 ∷ 0 ∷ 3 ∷ 8 ∷ 0x05 ∷ 0x40 ∷
    0x12 ∷ 0 ∷ 4 ∷ 8 ∷ 0x05 ∷ 0 ∷ 1 ∷
    []

plain_run : on_tape (example false) (bus_of plain_tape (replicate 60 0) (record { tape = 0; log = 0 }))
    ≡ ran (value tt) plain_tape (plain_log ++ replicate 8 0) (record { tape = 32; log = 52 })
unfolding example link plain_tape plain_log on_tape bind ◌>>=◌ proceed
    read_bytes read_raw plain_read plainly wrote ask_write send compared verified ask_back write_raw
    write_frame framed field unfield log_field tape_field wanted untape says moved after answered outcome put
plain_run = refl

-- ---- with checks
checked_tape : List ℕ
checked_tape =
    tape_field (done (read_frame true 8 (0x00 ∷ 0x00 ∷ [])))
    ++ tape_field (done (read_frame true 8 (0x00 ∷ [])))
    ++ tape_field (done [])
    ++ tape_field (done (read_frame true 8 (0x00 ∷ [])))
    ++ tape_field (done [])

checked_log : List ℕ
checked_log =
    0x12 ∷ 0 ∷ 4 ∷ 8 ∷ 0x50 ∷ 0 ∷ 4 ∷
    0x12 ∷ 0 ∷ 4 ∷ 8 ∷ 0x59 ∷ 0 ∷ 2 ∷
    0x11 ∷ 0 ∷ 14 ∷ 8 ∷ 0x06 ∷ 0x13 ∷ 0xA5 ∷ 0x55 ∷ 0xAC ∷ 0x50 ∷ 0xB7 ∷ 0xCF ∷ 0x63 ∷ 0xDF ∷ 0x13 ∷ 0x19 ∷ 0x4F ∷
    0x12 ∷ 0 ∷ 4 ∷ 8 ∷ 0x05 ∷ 0 ∷ 2 ∷
    0x11 ∷ 0 ∷ 4 ∷ 8 ∷ 0x05 ∷ 0x40 ∷ 0x24 ∷
    []

checked_run : on_tape (example true) (bus_of checked_tape (replicate 45 0) (record { tape = 0; log = 0 }))
    ≡ ran (value tt) checked_tape checked_log (record { tape = 23; log = 45 })
unfolding example link checked_tape checked_log on_tape bind ◌>>=◌ proceed
    read_bytes read_raw checked_read ask_frame checkedly received where_right wrote ask_write send write_raw
    write_frame read_frame framed checked right data_of read_byte write_byte
    check_byte divide line coefficient divisor number
    field unfield log_field tape_field wanted untape says moved after answered outcome put
checked_run = refl
