-- The frames' lengths and bytes.
-- Assumes nothing.
use mathlib.Core.Path.{◌≡◌}
use mathlib.Core.Bool.{Bool, true, false, cond}
use mathlib.Core.List.{List, [], ◌∷◌}
use Prim.Native.Nat.{ℕ, ◌+◌, ◌*◌, ◌^◌, ◌≤◌, ◌<◌}
use native.Mathlib.Omega.{arith}
use lib.ListN.{length}
use borrow.Author.Tests.{le-leb, lt-leb}
use Rattle.check_byte.specs.CheckByte.{Bytes}
use Rattle.frames.specs.Frames.{write_byte, read_byte, framed, write_frame, read_frame, written_frame}
use Rattle.frames.proofs.Checked.{length_checked, bytes_checked}

length_framed : (check : Bool) (before bytes : List ℕ) → length (framed check before bytes) ≡ cond check 2 1 * length bytes
unfolding framed
length_framed true before bytes = length_checked before bytes
length_framed false before bytes = omega arith

pub length_write_frame : (check : Bool) (address reg : ℕ) (bytes : List ℕ)
    → length (write_frame check address reg bytes) ≡ cond check 2 1 * length bytes + 1
unfolding write_frame
length_write_frame check address reg bytes = omega (arith, length_framed check (write_byte address ∷ reg ∷ []) bytes)

pub length_read_frame : (check : Bool) (address : ℕ) (bytes : List ℕ) → length (read_frame check address bytes) ≡ cond check 2 1 * length bytes
unfolding read_frame
length_read_frame check address bytes = length_framed check (read_byte address ∷ []) bytes

-- up to eight bytes, and over eight
pub written_frame_lem : (check : Bool) (address reg : ℕ) (bytes : List ℕ) → length bytes ≤ 8
    → written_frame check address reg bytes ≡ write_frame check address reg bytes
unfolding written_frame
written_frame_lem check address reg bytes h = rw (le-leb (length bytes) 8 h)

pub written_none : (check : Bool) (address reg : ℕ) (bytes : List ℕ) → 8 < length bytes → written_frame check address reg bytes ≡ []
unfolding written_frame
written_none check address reg bytes h = rw (lt-leb (length bytes) 8 h)

-- of bytes, bytes
pub write_byte_lt : (address : ℕ) → write_byte address < 2 ^ 8
unfolding write_byte
write_byte_lt address = omega arith

pub read_byte_lt : (address : ℕ) → read_byte address < 2 ^ 8
unfolding read_byte
read_byte_lt address = omega arith

bytes_framed : (check : Bool) (before bytes : List ℕ) → Bytes before → Bytes bytes → Bytes (framed check before bytes)
unfolding framed
bytes_framed true before bytes b h = bytes_checked before bytes b h
bytes_framed false before bytes b h = h

pub bytes_write_frame : (check : Bool) (address reg : ℕ) (bytes : List ℕ) → reg < 2 ^ 8 → Bytes bytes → Bytes (write_frame check address reg bytes)
unfolding write_frame
bytes_write_frame check address reg bytes r h =
    (r, bytes_framed check (write_byte address ∷ reg ∷ []) bytes (write_byte_lt address, (r, tt)) h)

pub bytes_read_frame : (check : Bool) (address : ℕ) (bytes : List ℕ) → Bytes bytes → Bytes (read_frame check address bytes)
unfolding read_frame
bytes_read_frame check address bytes h = bytes_framed check (read_byte address ∷ []) bytes (read_byte_lt address, tt) h
