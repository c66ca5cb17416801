-- `balance_get` keeps its promise by the call's own, and what it reads on every chip follows from that promise.
-- Assumes nothing.
use Rattle.runs.proofs.Calls.{promised}
use Rattle.model.proofs.ReadBack.{reads_back}
use Rattle.recovered.proofs.balance_get.Goals as goal

pub returns : goal.returns
returns c = (c.balance_get.ensures, reads_back _ (promised _ _ _ _ c.balance_get.ensures.0))
