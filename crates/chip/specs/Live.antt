-- A live bus, by calls that only know tapes: a call is made in passes. The tape of a pass has the answers that the device has given so
-- far and a fault behind them. Where a pass does not come to that fault, its answer is the call's. Where it does, its log ends in the
-- transfer that the call wants next: it is made on the device, its answer takes the fault's place, and the next pass begins.
-- Assumes nothing.
use Rattle.std.specs.Prelude.{◌≡◌, ℕ, suc, ◌≤◌, ◌<◌, length, take}
use mathlib.Core.List.{List, [], ◌++◌, get_last?}
use Rattle.std.proofs.Math.Option.{Option, some, bind}
use Rattle.bus.specs.Transfers.{Transfer, Outcome, fault, tape_field, start, bus_of, moved}
use Rattle.bus.specs.Programs.{Prog, Ran, on_tape}
use Rattle.bus.specs.Decoders.{transfers_in}
use Rattle.chip.specs.Devices.{Reached, reached, on_device, log_of, tape_of}

-- the last transfer of a log; none where it has none, or is no log
unfoldable pub ends_in : List ℕ → Option Transfer
ends_in log = bind (transfers_in (length log) log) get_last?

-- what a caller goes by: how far a pass used its tape and its log, and the log's bytes
pub record Used : Type 0 where
  pub tape : ℕ
  pub log : ℕ
  pub bytes : List ℕ

abbrev pub used_by : {A : Type 0} → Ran A → Used
used_by r = record { tape = r.bus.at.tape; log = r.bus.at.log; bytes = r.bus.log }

-- the tape of a pass: the answers so far, and a fault
abbrev pub and_fault : List ℕ → List ℕ
and_fault answers = answers ++ tape_field (fault [])

-- the program on the device itself: its answer and the device after it; in the log its transfers, and of the tape all used but the
-- fault
abbrev pub ended : {S A : Type 0} → (S → Transfer → Reached S Outcome) → Prog A → List ℕ → S → Reached S (Ran A)
ended move p log s =
    let r = on_device move p s in
    let b = bus_of (and_fault (tape_of move p s)) log start in
    reached (record { answer = r.answer; bus = moved (tape_of move p s) (log_of move p s) b }) r.device

-- a pass of a program over the answers so far, with this log: what its caller is given of it
abbrev pub pass : {A O : Type 0} → Prog A → (Ran A → O) → List ℕ → List ℕ → O
pass p given answers log = given (on_tape p (bus_of (and_fault answers) log start))

module _ {O : Type 0} (used : O → Used) where
  -- it came to the fault
  abbrev pub CameToFault : List ℕ → O → Type 0
  CameToFault answers o = length answers < (used o).tape

  -- the transfer that it wants next
  abbrev pub wants_next : O → Option Transfer
  wants_next o = ends_in (take (used o).log (used o).bytes)

  -- a pass that came to the fault: what it wants next, and how it left off
  pub record GoesOn (Off : O → Type 0) (o : O) : Type 0 where
    pub transfer : Transfer
    pub wants : wants_next o ≡ some transfer
    pub off : Off o

module _ {S A O : Type 0} (move : S → Transfer → Reached S Outcome) (p : Prog A) (given : Ran A → O) (used : O → Used) where
  -- So many passes from a device and a log on, each of which came to the fault, and after it the transfer that it wants was made on the
  -- device; the last indices are the device, its answers and the log then.
  pub data Passes (s : S) (log : List ℕ) : ℕ → S → List ℕ → List ℕ → Type 0 where
    none_yet : Passes s log 0 s [] log
    one_more : {n : ℕ} {s' : S} {answers log' : List ℕ} → Passes s log n s' answers log'
        → (o : O) → o ≡ pass p given answers log' → CameToFault used answers o → (t : Transfer) → wants_next used o ≡ some t
        → Passes s log (suc n) (move s' t).device (answers ++ tape_field (move s' t).answer) (used o).bytes

  -- The pass after n of them. In all there are at most so many. Where it comes to the fault, a transfer is wanted; where it does not, the
  -- call is done as on the device itself, and the device is left so.
  pub record Goes (Off : O → Type 0) (most : ℕ) (s : S) (log : List ℕ) (n : ℕ) (s' : S) (answers : List ℕ) (o : O) : Type 0 where
    pub few : n < most
    pub goes_on : CameToFault used answers o → GoesOn used Off o
    pub ends : (used o).tape ≤ length answers → (o ≡ given (ended move p log s).answer) × (s' ≡ (ended move p log s).device)
