-- One byte leaves at most ten bits.
-- Assumes nothing.
use Rattle.std.proofs.Common.{arith, rules}
use Rattle.check_byte.proofs.Leaves.{one}
use Rattle.check_byte.proofs.check_byte1.Goals as goal

pub left-requires : goal.left-requires
left-requires c = omega (arith, (one c.more.ensures (search rules)).small)
