-- What log and tape show of a run: the transfers that it added to the log, each with what the tape said to it, and of these the registers that
-- were read and those that were written, with their bytes.
-- Assumes nothing.
use Rattle.std.specs.Prelude.{ℕ, Bool, true, false, ◌&&◌, List, [], ◌∷◌, ◌++◌, length, take, drop, eqb}
use Rattle.std.proofs.Math.Option.{Option, map}
use Rattle.laws.specs.Choice.{when◌then◌else◌}
use Rattle.frames.specs.Frames.{write_byte, read_byte, right, data_of}
use Rattle.bus.specs.Transfers.{Transfer, write, read, Outcome, done, fault, stopped, log_field, tape_field, wanted, says}
use Rattle.bus.specs.Decoders.{transfers_in}
use Rattle.bus.specs.declared.Cursor.{Cursor}

-- a transfer made, and how it went
abbrev pub Made : Type 0
Made = Transfer × Outcome

-- their fields in the log, and on the tape
unfoldable pub logged : List Made → List ℕ
logged [] = []
logged (m ∷ h) = log_field m.0 ++ logged h

unfoldable pub tape_fields : List Made → List ℕ
tape_fields [] = []
tape_fields (m ∷ h) = tape_field m.1 ++ tape_fields h

-- each transfer with what the tape, from here on, says to it
unfoldable pub with_tape : List Transfer → List ℕ → List Made
with_tape [] tape = []
with_tape (t ∷ ts) tape = (t, says (wanted t) tape) ∷ with_tape ts (drop (length (tape_field (says (wanted t) tape))) tape)

-- what was made between two positions of a tape and a log; none where the log's bytes between them are no transfers' fields
unfoldable pub made_between : List ℕ → List ℕ → Cursor → Cursor → Option (List Made)
made_between tape log from to =
    let bytes = drop from.log (take to.log log) in
    map (λ (ts : List Transfer). with_tape ts (drop from.tape tape)) (transfers_in (length bytes) bytes)

-- ---- the registers
-- a device's registers from one on, and their bytes
pub record Access : Type 0 where
  pub address : ℕ
  pub register : ℕ
  pub bytes : List ℕ

abbrev pub access : ℕ → ℕ → List ℕ → Access
access address register bytes = record { address = address; register = register; bytes = bytes }

-- the data of bytes that came behind those before: with checks of a right frame, and none of any other
unfoldable pub data_in : Bool → List ℕ → List ℕ → List ℕ
data_in false before bytes = bytes
data_in true before bytes = when right before bytes then data_of bytes else []

module _ (check : Bool) where
  unfoldable pub got_by : Transfer → Outcome → List Access
  got_by (write a bytes) o = []
  got_by (read a r n) (done bytes) = access a r (data_in check (read_byte a ∷ []) bytes) ∷ []
  got_by (read a r n) (fault bytes) = []
  got_by (read a r n) (stopped x) = []

  -- whatever came of it
  unfoldable pub sent_by : Transfer → List Access
  sent_by (write a []) = []
  sent_by (write a (r ∷ bytes)) = access a r (data_in check (write_byte a ∷ r ∷ []) bytes) ∷ []
  sent_by (read a r n) = []

  -- what was read, and what was written, in order
  unfoldable pub registers_read : List Made → List Access
  registers_read [] = []
  registers_read (m ∷ h) = got_by m.0 m.1 ++ registers_read h

  unfoldable pub registers_written : List Made → List Access
  registers_written [] = []
  registers_written (m ∷ h) = sent_by m.0 ++ registers_written h

-- the first bytes for a device's register, or none
abbrev pub first_of : ℕ → ℕ → List Access → List ℕ
first_of address register [] = []
first_of address register (b ∷ more) =
    when eqb b.address address && eqb b.register register then b.bytes else first_of address register more
