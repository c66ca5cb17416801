-- What a function on a lent tape and log is held to: that it does what its program does there.
-- Assumes nothing.
use Rattle.std.specs.Prelude.{◌≡◌, List, ℕ}
use Rattle.std.specs.Borrow.{Bor, MutBor}
use denote.Triple.Both.{Both}
use Rattle.bus.specs.Transfers.{Bus, bus_of}
use Rattle.bus.specs.Programs.{Prog, ends, on_tape}
use Rattle.bus.specs.declared.Cursor.{Cursor}
use Rattle.bus.specs.declared.Bus as code

-- a caller's bytes: as the function finds them, and as it leaves them; and so of bytes that it may change
abbrev pub Lent : Type 0
Lent = Both (Bor (List ℕ)) (Bor (List ℕ))

abbrev pub LentMut : Type 0
LentMut = Both (MutBor (List ℕ)) (MutBor (List ℕ))

-- tape and log as the function finds them, used so far
abbrev pub lent_bus : Lent → LentMut → Cursor → Bus
lent_bus tape log at = bus_of tape.entry.now log.entry.now at

-- the code's bus: the bytes behind its references, and how far they are used
abbrev pub held : code.Bus → Bus
held b = bus_of b.tape.now b.log.now b.at

-- a bus that is lent to be used further, as the function finds it and as it leaves it
abbrev pub LentBus : Type 0
LentBus = Both (MutBor code.Bus) (MutBor code.Bus)

-- the function answers, and leaves tape, log and cursor, as its program does; and its log is the caller's still
abbrev pub does : {A : Type 0} → Prog A → LentBus → A → Type 0
does program bus answer =
    (ends answer (held bus.exit.now) ≡ on_tape program (held bus.entry.now))
    × (bus.exit.now.log.ghost_name ≡ bus.entry.now.log.ghost_name)
