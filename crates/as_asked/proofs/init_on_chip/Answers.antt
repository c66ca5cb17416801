-- `init` on the model chip: by the promise of the call.
-- Assumes nothing.
use Rattle.runs.proofs.Calls.{promised}
use Rattle.as_asked.proofs.OnChip.{on_every_chip}
use Rattle.as_asked.proofs.Shows.{still_lent}
use Rattle.as_asked.proofs.init_on_chip.Goals as goal

pub returns : goal.returns
returns c = (on_every_chip _ _ _ (promised _ _ _ _ c.init.ensures.0), still_lent _ _ _ c.init.ensures)
