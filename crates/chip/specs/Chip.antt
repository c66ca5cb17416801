-- The model chip: 256 registers behind a bus address, with check bytes or without, and what it does with one transfer, whole or cut.
-- Assumes nothing.
use Rattle.std.specs.Prelude.{Bool, true, false, ◌&&◌, List, [], ◌∷◌, ◌++◌, ℕ, zero, suc, ◌+◌, ◌-◌, ◌/◌, min, length, take, get_or, set, replicate, eqb, leb}
use Rattle.std.proofs.Math.Option.{Option, none, some}
use Rattle.std.specs.Int.Bits.{bit_and}
use Rattle.check_byte.specs.CheckByte.{check_byte}
use Rattle.frames.specs.Frames.{write_byte, read_frame}
use Rattle.laws.specs.Choice.{when◌then◌else◌}
use Rattle.bus.specs.Transfers.{Transfer, write, read, Outcome, done, fault, stopped}
use Rattle.chip.specs.Devices.{Reached, reached}
use Rattle.chip.specs.declared.Chip.{Chip}

abbrev pub with_regs : Chip → List ℕ → Chip
with_regs c regs = record { address = c.address; check = c.check; regs = regs }

-- all zero until set
unfoldable pub zeros : List ℕ
zeros = replicate 256 0

abbrev pub fresh : ℕ → Bool → Chip
fresh address check = record { address = address; check = check; regs = zeros }

-- a register set by hand, which is no bus write
abbrev pub with_reg : Chip → ℕ → ℕ → Chip
with_reg c r x = with_regs c (set c.regs r x)

-- ---- a frame's bytes after its head

-- the data bytes among n of them
unfoldable pub begun : Bool → ℕ → ℕ
begun false n = n
begun true n = (n + 1) / 2

-- those of the data bytes that are complete: with checks, the check byte has come too
unfoldable pub complete : Bool → ℕ → ℕ
complete false n = n
complete true n = n / 2

-- ---- a write

-- a data byte is stored: status, register 00, clears the bits written as 1, and any other register takes the byte
unfoldable pub arrives : ℕ → ℕ → List ℕ → List ℕ
arrives zero x regs = set regs 0 (get_or regs 0 0 - bit_and (get_or regs 0 0) x)
arrives (suc r) x regs = set regs (suc r) x

-- the register address counts up
unfoldable pub stores : ℕ → List ℕ → List ℕ → List ℕ
stores r [] regs = regs
stores r (x ∷ bytes) regs = stores (suc r) bytes (arrives r x regs)

-- with checks, the data bytes whose check byte has come and agrees, up to the first that does not; the first check byte covers what
-- went before too
unfoldable pub agreed : List ℕ → List ℕ → List ℕ
agreed before [] = []
agreed before (x ∷ []) = []
agreed before (x ∷ c ∷ rest) = when eqb c (check_byte (before ++ x ∷ [])) then x ∷ agreed [] rest else []

-- the data bytes that are stored
unfoldable pub accepted : Bool → List ℕ → List ℕ → List ℕ
accepted false before bytes = bytes
accepted true before bytes = agreed before bytes

-- the data bytes stored of a write, by what comes after its register
unfoldable pub stored_of : Chip → ℕ → List ℕ → List ℕ
stored_of c r bytes = accepted c.check (write_byte c.address ∷ r ∷ []) bytes

-- the chip after the bytes of a write, the register first
unfoldable pub written : Chip → List ℕ → Chip
written c [] = c
written c (r ∷ bytes) = with_regs c (stores r (stored_of c r bytes) c.regs)

-- a wrong check byte ends the write
unfoldable pub acknowledged : Chip → List ℕ → Bool
acknowledged c [] = true
acknowledged c (r ∷ bytes) = eqb (length (stored_of c r bytes)) (complete c.check (length bytes))

-- how many data bytes of a right frame are new: all of them, or those that were complete when the wire was cut; the register comes first
abbrev pub new_bytes : Bool → Option ℕ → List ℕ → ℕ
new_bytes check none bytes = length bytes
new_bytes check (some j) bytes = min (complete check (j - 1)) (length bytes)

-- ---- a read

-- n registers from r on
unfoldable pub held : ℕ → ℕ → List ℕ → List ℕ
held r zero regs = []
held r (suc n) regs = get_or regs r 0 ∷ held (suc r) n regs

-- n bytes on the bus, with right check bytes
unfoldable pub shows : Chip → ℕ → ℕ → List ℕ
shows c r n = take n (read_frame c.check c.address (held r (begun c.check n) c.regs))

-- ---- a transfer

-- it answers to its own address, and to no transfer that would pass register FF
unfoldable pub answers : Chip → Transfer → Bool
answers c (write a []) = eqb a c.address
answers c (write a (r ∷ bytes)) = eqb a c.address && leb (r + begun c.check (length bytes)) 256
answers c (read a r n) = eqb a c.address && leb (r + begun c.check n) 256

-- a transfer that it answers, whole, or cut after so many bytes behind the address byte: then what came is stored, or delivered, and
-- it faults
unfoldable pub carried : Option ℕ → Chip → Transfer → Reached Chip Outcome
carried none c (write a bytes) = reached (when acknowledged c bytes then done [] else fault []) (written c bytes)
carried none c (read a r n) = reached (done (shows c r n)) c
carried (some j) c (write a bytes) = reached (fault []) (written c (take j bytes))
carried (some j) c (read a r n) = reached (fault (take j (shows c r n))) c

unfoldable pub respond_cut : Option ℕ → Chip → Transfer → Reached Chip Outcome
respond_cut cut c t = when answers c t then carried cut c t else reached (fault []) c

abbrev pub respond : Chip → Transfer → Reached Chip Outcome
respond = respond_cut none

-- the bytes that a transfer delivers
abbrev pub delivered : Outcome → List ℕ
delivered (done bytes) = bytes
delivered (fault bytes) = bytes
delivered (stopped r) = []
