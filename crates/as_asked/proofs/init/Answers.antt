-- Demand 2 by the promise of the call, on a tape that is of bytes.
-- Assumes nothing.
use Rattle.as_asked.proofs.Demand2.{demand_2}
use Rattle.as_asked.proofs.init.Goals as goal

pub returns : goal.returns
returns c = demand_2 _ _ _ _ c.of_bytes.ensures c.init.ensures
