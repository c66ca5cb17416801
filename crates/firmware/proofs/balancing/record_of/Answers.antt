-- The device that the bytes name is made, or what they are refused with is the answer.
-- Assumes nothing.
use Rattle.std.proofs.Common.{arith}
use Rattle.plan.specs.Order.{◌and_then◌}
use Rattle.firmware.specs.JobBalance.{record_of}
use Rattle.firmware.proofs.balancing.record_of.Goals as goal

pub returns-in_err-asked : goal.returns-in_err-asked
unfolding record_of ◌and_then◌
returns-in_err-asked c = grind arith

pub returns-in_err-made : goal.returns-in_err-made
unfolding record_of ◌and_then◌
returns-in_err-made c = grind arith

pub returns : goal.returns
unfolding record_of ◌and_then◌
returns c = grind arith
