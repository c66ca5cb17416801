-- By the promise of the call, which leaves the bus as this function does.
-- Assumes nothing.
use Rattle.bus.specs.Lent.{LentBus}
use Rattle.as_asked.specs.Reading.{ExactlyRead}
use Rattle.as_asked.proofs.Reading.{exactly_read}
use Rattle.as_asked.proofs.Shows.{still_lent}
use Rattle.as_asked.proofs.read_raw.Goals as goal

pub returns : goal.returns
unfolding ExactlyRead
returns c =
    let bus = c.args.bus in
    let lent : LentBus = record { entry = bus; exit = record { ref_ptr = bus.ref_ptr; ghost_name = bus.ghost_name; now = c.read_raw.new.bus } } in
    let made = exactly_read _ _ _ lent _ _ c.read_raw.ensures in
    (λ accepted few. made accepted few, still_lent _ _ _ c.read_raw.ensures)
