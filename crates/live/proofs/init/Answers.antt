-- The passes of `init` stand on the call's own promise: a job set up takes at most eight of them and 52 bytes of log.
-- Assumes nothing.
use Rattle.live.proofs.Calls.{init_live}
use Rattle.live.proofs.init.Goals as goal

pub returns : goal.returns
returns c = init_live _ _ _ c.bq769x0_init.ensures
