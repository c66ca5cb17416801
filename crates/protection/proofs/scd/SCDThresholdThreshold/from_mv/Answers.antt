-- `protection::scd::SCDThresholdThreshold::from_mv` meets its contract: the number is on its answer's line. Assumes nothing.
use Rattle.std.proofs.Common.{arith}
use Rattle.protection.proofs.Ladder.{picked, scd_beside}
use Rattle.protection.proofs.scd.SCDThresholdThreshold.from_mv.Goals as goal

pub returns : goal.returns
returns c = picked scd_beside c.ladder.result c.args.mv_threshold (omega arith) c.ladder.ensures
