-- `protection::ocd::OCDThresholdThreshold::from_mv` meets its contract: the number is on its answer's line. Assumes nothing.
use Rattle.std.proofs.Common.{arith}
use Rattle.protection.proofs.Ladder.{picked, ocd_beside}
use Rattle.protection.proofs.ocd.OCDThresholdThreshold.from_mv.Goals as goal

pub returns : goal.returns
returns c = picked ocd_beside c.ladder.result c.args.mv_threshold (omega arith) c.ladder.ensures
