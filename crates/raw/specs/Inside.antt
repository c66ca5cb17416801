-- What private contracts cite: what the code's steps say of one transfer, in the terms of Transfers. Nobody has to believe it.
-- Assumes nothing.
use Rattle.std.specs.Prelude.{◌≡◌, Bool, true, false, ◌&&◌, ℕ, ◌+◌, ◌≤◌, List, [], length, take, drop, eqb, leb, Result, Ok, Err}
use Rattle.refusals.specs.Refusal.{as_refusal, Answer, value, refused}
use Rattle.refusals.specs.declared.Error.{Error}
use Rattle.refusals.specs.declared.Error.TheVariants as E
use Rattle.frames.specs.Frames.{data_of}
use Rattle.frames.specs.Put.{put}
use Rattle.laws.specs.Choice.{when◌then◌else◌}
use Rattle.bus.specs.Transfers.{Transfer, Outcome, done, fault, stopped, Bus, outcome, after}
use Rattle.bus.specs.Lent.{held, LentBus}
use Rattle.bus.specs.Raw.{Done, refuses, Read, gives, where_right}
use Rattle.raw.specs.declared.transfer.Made.{Made}

-- what the code says of a transfer: made, or not
abbrev pub Reply : Type 0
Reply = Result Made Error

abbrev pub made : Bool → ℕ → Reply
made faulted n = Ok (record { fault = faulted; len = n })

-- one that was done
abbrev pub whole : ℕ → Reply
whole n = made false n

abbrev pub judged : ℕ → ℕ → ℕ → Reply
judged want tag len =
    when eqb tag 0x01 && eqb len want then made false len
    else when eqb tag 0x02 && leb len want then made true len
    else Err E.BadTape

abbrev pub ended_as : Bool → List ℕ → Outcome
ended_as false bytes = done bytes
ended_as true bytes = fault bytes

-- a reply, with the bytes among which those delivered stand first
abbrev pub outcome_of : Reply → List ℕ → Outcome
outcome_of (Ok m) bytes = ended_as m.fault (take m.len bytes)
outcome_of (Err e) bytes = stopped (as_refusal e)

-- as many bytes as are wanted, or at most those before a fault
abbrev pub Few : Bool → ℕ → ℕ → Type 0
Few false n want = n ≡ want
Few true n want = n ≤ want

-- and no more than stand there
abbrev pub Within : ℕ → ℕ → Reply → Type 0
Within want room (Ok m) = Few m.fault m.len want × (3 + m.len ≤ room)
Within want room (Err e) = Unit {0}

-- a reply that says what is answered, on the rest of the tape
pub record Heard (want : ℕ) (rest : List ℕ) (answer : Outcome) (r : Reply) : Type 0 where
  pub said : outcome_of r (drop 3 rest) ≡ answer
  pub within : Within want (length rest) r

-- the caller's buffer after a read: the bytes delivered, and what stood behind them
abbrev pub buffer_after : List ℕ → Outcome → List ℕ
buffer_after buf (done bytes) = put buf 0 bytes
buffer_after buf (fault bytes) = put buf 0 bytes
buffer_after buf (stopped r) = buf

-- a transfer that went from one bus to the next as its outcome says
pub record WentBy (t : Transfer) (o : Outcome) (b b' : Bus) : Type 0 where
  pub went : o ≡ outcome t b
  pub next : b' ≡ after t (outcome t b) b

pub record ReadBy (t : Transfer) (buf : List ℕ) (r : Reply) (buf' : List ℕ) (b b' : Bus) : Type 0 where
  pub moved : WentBy t (outcome_of r buf') b b'
  pub stored : buf' ≡ buffer_after buf (outcome t b)
  pub all : (n : ℕ) → r ≡ whole n → n ≡ length buf

abbrev pub WrittenBy : Transfer → Reply → Bus → Bus → Type 0
WrittenBy t r b b' = WentBy t (outcome_of r []) b b'

-- a read by the short way: done, or nothing touched
abbrev pub GotBy : Transfer → List ℕ → Bool → List ℕ → Bus → Bus → Type 0
GotBy t buf true buf' b b' = ReadBy t buf (whole (length buf)) buf' b b'
GotBy t buf false buf' b b' = (buf' ≡ buf) × (b' ≡ b)

-- so of a write
abbrev pub SentBy : Transfer → Bool → Bus → Bus → Type 0
SentBy t true b b' = WrittenBy t (whole 0) b b'
SentBy t false b b' = b' ≡ b

-- so of a write `t` and a read `u` after it
abbrev pub EchoedBy : Transfer → Transfer → List ℕ → Bool → List ℕ → Bus → Bus → Type 0
EchoedBy t u back true back' b b' =
    let between = after t (outcome t b) b in
    WrittenBy t (whole 0) b between × ReadBy u back (whole (length back)) back' between b'
EchoedBy t u back false back' b b' = (back' ≡ back) × (b' ≡ b)

-- so of a bus that the code is lent; and its log is the caller's still
abbrev pub leaves : LentBus → (Bus → Bus → Type 0) → Type 0
leaves bus By =
    By (held bus.entry.now) (held bus.exit.now) × (bus.exit.now.log.ghost_name ≡ bus.entry.now.log.ghost_name)

-- a reply as an answer: a fault is 2
abbrev pub ending : Bool → Answer Done
ending false = value tt
ending true = refuses 2

abbrev pub answer_to : Reply → Answer Done
answer_to (Ok m) = ending m.fault
answer_to (Err e) = refused (as_refusal e)

-- what a frame with check bytes gives, as it stands in the code's buffer after the transfer
unfoldable pub taken : ℕ → List ℕ → List ℕ → Bool → Read
taken address buf frame false = where_right address buf frame (gives (value tt) (put buf 0 (data_of frame)))
taken address buf frame true = where_right address buf frame (gives (refuses 2) buf)
