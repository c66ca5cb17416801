-- The passes of `balance_set` stand on the call's own promise: a set balanced takes at most three of them and 15 bytes of log.
-- Assumes nothing.
use Rattle.live.proofs.Calls.{set_live}
use Rattle.live.proofs.balance_set.Goals as goal

pub returns : goal.returns
returns c = set_live _ _ _ _ _ c.bq769x0_balance_set.ensures
