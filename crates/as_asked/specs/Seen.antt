-- What a run's own log and tape show: the bytes read of a register, and the calibration by 50, 51 and 59.
-- Assumes nothing.
use Rattle.std.specs.Prelude.{ℕ, ◌+◌, ◌≡◌, ◌&&◌, List, eqb, length, get_or}
use Rattle.std.proofs.Math.Option.{Option, none, some}
use Rattle.laws.specs.Choice.{when◌then◌else◌}
use Rattle.refusals.specs.Refusal.{Answer}
use Rattle.adc.specs.Registers.{calibration}
use Rattle.adc.specs.declared.transfer.AdcTransferFunction.{AdcTransferFunction}
use Rattle.bus.specs.Shown.{Made, logged, tape_fields, made_between, registers_read, first_of}
use Rattle.bus.specs.Lent.{LentBus}
use Rattle.bus.specs.declared.link.Link.{Link}

module _ (link : Link) (seen : List Made) where
  -- the bytes first read from a register on; with checks, of a right frame
  abbrev pub read_from : ℕ → List ℕ
  read_from register = first_of link.address register (registers_read link.check seen)

  -- none where not both were read
  abbrev pub calibration_in : Option AdcTransferFunction
  calibration_in =
      when eqb (length (read_from 0x50)) 2 && eqb (length (read_from 0x59)) 1
      then some (calibration (get_or (read_from 0x50) 0 0) (get_or (read_from 0x50) 1 0) (get_or (read_from 0x59) 0 0))
      else none

-- the transfers that a call made on the bus that it was lent, with what its tape said to them, by its own log
abbrev pub transfers_made : LentBus → Option (List Made)
transfers_made bus = made_between bus.entry.now.tape.now bus.exit.now.log.now bus.entry.now.at bus.exit.now.at

-- after a call the tape is as it was lent, and the log is the caller's still
pub record StillLent (bus : LentBus) : Type 0 where
  pub tape_is : bus.exit.now.tape.now ≡ bus.entry.now.tape.now
  pub log_is : bus.exit.now.log.ghost_name ≡ bus.entry.now.log.ghost_name

-- a call on this bus which answered so: its log reads back as transfers, and of these, with what the tape said to them, P holds beside the answer
pub record Shows {A : Type 0} (P : List Made → Answer A → Type 0) (bus : LentBus) (answer : Answer A) : Type 0 where
  pub seen : List Made
  pub reads_back : transfers_made bus ≡ some seen
  -- both positions are past their fields, and no further
  pub tape_used_is : bus.exit.now.at.tape ≡ bus.entry.now.at.tape + length (tape_fields seen)
  pub log_used_is : bus.exit.now.at.log ≡ bus.entry.now.at.log + length (logged seen)
  pub still : StillLent bus
  pub holds : P seen answer
