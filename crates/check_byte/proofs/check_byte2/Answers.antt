-- Two bytes leave at most twelve bits.
-- Assumes nothing.
use Rattle.std.proofs.Common.{arith, rules}
use Rattle.check_byte.proofs.Leaves.{one, two}
use Rattle.check_byte.proofs.check_byte2.Goals as goal

pub more-requires-2 : goal.more-requires-2
more-requires-2 c = omega (arith, (one c.more.ensures (search rules)).small)

pub left-requires : goal.left-requires
left-requires c = omega (arith, (two c.more.ensures c.more-2.ensures (search rules) (search rules)).small)
