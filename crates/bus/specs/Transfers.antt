-- One transfer: its field in the log, what the tape says of it, and how it leaves both.
-- Assumes nothing.
use Rattle.std.specs.Prelude.{ℕ, ◌+◌, ◌/◌, ◌%◌, ◌&&◌, List, [], ◌∷◌, length, drop, leb, eqb}
use Rattle.std.proofs.Math.Option.{Option, none, some}
use Rattle.refusals.specs.Refusal.{Refusal, no}
use Rattle.frames.specs.Put.{put}
use Rattle.laws.specs.Choice.{when◌then◌else◌}
use Rattle.fields.specs.Fields.{field, Field, unfield}
use Rattle.bus.specs.declared.Cursor.{Cursor}

pub data Transfer : Type 0 where
  -- the address, and every byte sent
  write : ℕ → List ℕ → Transfer
  -- the address, the register, and the count of bytes wanted
  read : ℕ → ℕ → ℕ → Transfer

pub data Outcome : Type 0 where
  -- the bytes read
  done : List ℕ → Outcome
  -- the bytes delivered before the fault
  fault : List ℕ → Outcome
  -- the transfer was not made: 15, 16 or 17
  stopped : Refusal → Outcome

-- ---- the log: tag 11 a write, its address and every byte sent; tag 12 a read, its address, register and two-byte count
unfoldable pub log_field : Transfer → List ℕ
log_field (write address bytes) = field 0x11 (address ∷ bytes)
log_field (read address reg count) = field 0x12 (address ∷ reg ∷ count / 256 % 256 ∷ count % 256 ∷ [])

-- ---- the tape: tag 01 done, with exactly the bytes wanted; tag 02 a fault, with at most those; a write wants none
unfoldable pub tape_field : Outcome → List ℕ
tape_field (done bytes) = field 0x01 bytes
tape_field (fault bytes) = field 0x02 bytes
tape_field (stopped r) = []

unfoldable pub wanted : Transfer → ℕ
wanted (write address bytes) = 0
wanted (read address reg count) = count

-- what a field says to a transfer that wants n bytes; 15 where it does not fit, or there is no whole field
unfoldable pub untape : ℕ → Option Field → Outcome
untape n none = stopped (no 15 [])
untape n (some f) =
    when eqb f.tag 0x01 && eqb (length f.value) n
    then done f.value
    else when eqb f.tag 0x02 && leb (length f.value) n
    then fault f.value
    else stopped (no 15 [])

-- what is left of the tape says; 16 where nothing is left
unfoldable pub says : ℕ → List ℕ → Outcome
says n [] = stopped (no 16 [])
says n (b ∷ bytes) = untape n (unfield (b ∷ bytes))

-- ---- tape and log, with how far each is used
pub record Bus : Type 0 where
  pub tape : List ℕ
  pub log : List ℕ
  pub at : Cursor

-- nothing of either used
abbrev pub start : Cursor
start = record { tape = 0; log = 0 }

abbrev pub bus_of : List ℕ → List ℕ → Cursor → Bus
bus_of tape log at = record { tape = tape; log = log; at = at }

-- so many more bytes of the tape used, and these bytes put into the log
unfoldable pub moved : List ℕ → List ℕ → Bus → Bus
moved taken logged b = record {
  tape = b.tape;
  log = put b.log b.at.log logged;
  at = record { tape = b.at.tape + length taken; log = b.at.log + length logged };
}

-- 15, 16 and 17 leave both as they were
unfoldable pub after : Transfer → Outcome → Bus → Bus
after t (done bytes) b = moved (tape_field (done bytes)) (log_field t) b
after t (fault bytes) b = moved (tape_field (fault bytes)) (log_field t) b
after t (stopped r) b = b

-- 17 where a log field of `need` bytes does not fit; then as the tape says
unfoldable pub answered : ℕ → ℕ → ℕ → List ℕ → Cursor → Outcome
answered want need size tape at =
    when leb (at.log + need) size then says want (drop at.tape tape) else stopped (no 17 [])

unfoldable pub outcome : Transfer → Bus → Outcome
outcome t b = answered (wanted t) (length (log_field t)) (length b.log) b.tape b.at
