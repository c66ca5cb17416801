-- A call of the code on a chip: what it was given and what it gave back, and what its own log leaves there.
-- Assumes nothing.
use Rattle.std.specs.Prelude.{◌≡◌, List, [], ◌∷◌, ◌++◌, ℕ, ◌+◌, ◌-◌, ◌≤◌, max, length, take, drop}
use Rattle.std.proofs.Math.Option.{Option, none, some}
use Rattle.bus.specs.Transfers.{Transfer, tape_field, bus_of}
use Rattle.bus.specs.Programs.{Prog, on_tape, ran}
use Rattle.bus.specs.Lent.{Lent, LentMut, LentBus}
use Rattle.bus.specs.Decoders.{transfers_in}
use Rattle.bus.specs.declared.Cursor.{Cursor}
use Rattle.chip.specs.Devices.{tape_of}
use Rattle.chip.specs.OnChip.{Wired, on_wire, on_chip, fed}
use Rattle.chip.specs.declared.Chip.{Chip}

-- ---- one call

-- the tape, log and positions that it was given; what it answered and left, and the log and the positions then
pub record Call (A : Type 0) : Type 0 where
  pub tape : List ℕ
  pub log : List ℕ
  pub at : Cursor
  pub gave : A
  pub log' : List ℕ
  pub at' : Cursor

-- of a function on a bus that it is lent
abbrev pub lent_call : {A : Type 0} → LentBus → A → Call A
lent_call bus gave = record {
  tape = bus.entry.now.tape.now;
  log = bus.entry.now.log.now;
  at = bus.entry.now.at;
  gave = gave;
  log' = bus.exit.now.log.now;
  at' = bus.exit.now.at;
}

-- of a function for C, with a lent tape and log
abbrev pub call_on : {A : Type 0} → Lent → LentMut → Cursor → A → Cursor → Call A
call_on tape log at gave at' = record {
  tape = tape.entry.now;
  log = log.entry.now;
  at = at;
  gave = gave;
  log' = log.exit.now;
  at' = at';
}

-- a chip on a wire that is cut so
abbrev pub on : Chip → (ℕ → Option ℕ) → Wired
on c cuts = record { chip = c; cuts = cuts }

-- a call that does p, on a chip and its wire, for which so much log is enough
pub record Run {A : Type 0} (p : Prog A) (enough : ℕ) (w : Wired) (call : Call A) : Type 0 where
  -- from its position on the tape goes as the chip answers, whatever comes then
  pub rest : List ℕ
  pub answers : drop call.at.tape call.tape ≡ tape_of on_wire p w ++ rest
  -- the log has room
  pub room : call.at.log + enough ≤ length call.log
  -- and the call kept its promise
  pub promise : ran call.gave call.tape call.log' call.at' ≡ on_tape p (bus_of call.tape call.log call.at)

-- Whatever chip answers a call of p, on whatever wire, this holds: from its position on the tape goes as the chip answers, whatever comes
-- then, and the log has room.
abbrev pub OnEveryChip : {A : Type 0} → Prog A → ℕ → Call A → (Chip → (ℕ → Option ℕ) → Type 0) → Type 0
OnEveryChip p enough call Holds =
    (c : Chip) (cuts : ℕ → Option ℕ) (rest : List ℕ)
    → drop call.at.tape call.tape ≡ tape_of on_wire p (on c cuts) ++ rest
    → call.at.log + enough ≤ length call.log
    → Holds c cuts

-- ---- its log
abbrev pub transfers : Option (List Transfer) → List Transfer
transfers none = []
transfers (some ts) = ts

-- what transfers leave on the chip, the last of them cut where the wire was
abbrev pub left_on : Wired → List Transfer → Chip
left_on w ts = fed (w.cuts (length ts - 1)) ts w.chip

-- the chip's answers to transfers, one after the other, on tape
unfoldable pub answers_to : List Transfer → Wired → List ℕ
answers_to [] w = []
answers_to (t ∷ ts) w = tape_field (on_wire w t).answer ++ answers_to ts (on_wire w t).device

module _ {A : Type 0} (call : Call A) where
  -- the bytes that it added to the log, and what they read back as
  abbrev pub added : List ℕ
  added = drop call.at.log (take call.at'.log call.log')

  abbrev pub logged_transfers : Option (List Transfer)
  logged_transfers = transfers_in (length added) added

  -- the bytes of the tape that it used
  abbrev pub used : List ℕ
  used = drop call.at.tape (take call.at'.tape call.tape)

-- what its transfers leave on the chip
abbrev pub left_by : {A : Type 0} → Wired → Call A → Chip
left_by w call = left_on w (transfers (logged_transfers call))

-- The log of a call reads back as transfers. These leave on the chip what the program leaves there, and the bytes of the tape that the
-- call used are the chip's answers to them.
pub record ByItsLog {A : Type 0} (p : Prog A) (w : Wired) (call : Call A) : Type 0 where
  pub reads_back : logged_transfers call ≡ some (transfers (logged_transfers call))
  pub chip : left_by w call ≡ (on_chip p w).device.chip
  pub tape : used call ≡ answers_to (transfers (logged_transfers call)) w

-- ---- two calls

-- They end alike: in the answer, with the record where they leave one, and the chip with all its registers; they log the same bytes, and use
-- as many of their tapes.
pub record Alike {A : Type 0} (w w' : Wired) (a b : Call A) : Type 0 where
  pub gave : a.gave ≡ b.gave
  pub chip : left_by w a ≡ left_by w' b
  pub log : added a ≡ added b
  pub tape : length (used a) ≡ length (used b)

-- Calls of one program from a chip on, one after another, each on a wire of its own, cut anywhere; the last index is the chip now.
pub data Calls {A : Type 0} (p : Prog A) (enough : ℕ) (c : Chip) : Chip → Type 0 where
  none_yet : Calls p enough c c
  one_more : {c' : Chip} → Calls p enough c c'
      → (cuts : ℕ → Option ℕ) (call : Call A) → Run p enough (on c' cuts) call
      → Calls p enough c (left_by (on c' cuts) call)

-- the most that one of them brought, by its wire
unfoldable pub most_of : {A : Type 0} {p : Prog A} {enough : ℕ} {c c' : Chip} → ((ℕ → Option ℕ) → ℕ) → Calls p enough c c' → ℕ
most_of brought none_yet = 0
most_of brought (one_more calls cuts call run) = max (most_of brought calls) (brought cuts)
