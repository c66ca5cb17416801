-- The exclusive or of numbers of twelve bits has twelve bits.
-- Assumes nothing.
use Rattle.std.proofs.Common.{arith, rules}
use lib.Bits.{xor_lt}
use Rattle.check_byte.proofs.more.Goals as goal

pub times_seven-requires : goal.times_seven-requires
times_seven-requires c = xor_lt 12 c.args.u c.args.byte (search rules) (omega arith)
