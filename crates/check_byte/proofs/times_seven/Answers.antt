-- Neither shift loses a bit.
-- Assumes nothing.
use Rattle.std.proofs.Common.{arith, ap₂, ℕ}
use Rattle.std.specs.Int.Bits.{bit_xor}
use lib.Pow.{shl_exact}
use Rattle.check_byte.specs.Inside.{times_seven}
use Rattle.check_byte.proofs.times_seven.Goals as goal

pub returns : goal.returns
unfolding times_seven
returns c =
    ap₂ (λ (x y : ℕ). bit_xor (bit_xor c.args.n x) y) (shl_exact 12 1 32 c.requires (omega arith)) (shl_exact 12 2 32 c.requires (omega arith))
