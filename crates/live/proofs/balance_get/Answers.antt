-- The passes of `balance_get` stand on the call's own promise: a set read back takes at most two of them and 7 bytes of log.
-- Assumes nothing.
use Rattle.live.proofs.Calls.{get_live}
use Rattle.live.proofs.balance_get.Goals as goal

pub returns : goal.returns
returns c = get_live _ _ _ c.bq769x0_balance_get.ensures
