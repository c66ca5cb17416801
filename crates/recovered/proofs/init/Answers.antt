-- `init` keeps its promise by the call's own, and demand 3 follows from that promise.
-- Assumes nothing.
use Rattle.runs.proofs.Calls.{promised}
use Rattle.recovery.proofs.Demand3.{demand_3}
use Rattle.recovered.proofs.init.Goals as goal

pub returns : goal.returns
returns c = (c.init.ensures, demand_3 (promised _ _ _ _ c.init.ensures.0))
