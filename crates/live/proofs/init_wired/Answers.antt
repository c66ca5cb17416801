-- The passes of `init_wired` stand on the call's own promise: a job set up and a reading take at most nine of them and 59 bytes of log.
-- Assumes nothing.
use Rattle.live.proofs.Calls.{wired_live}
use Rattle.live.proofs.init_wired.Goals as goal

pub returns : goal.returns
returns c = wired_live _ _ _ _ _ _ c.bq769x0_init_wired.ensures
