-- A turn goes on from a copy of i bytes to one of i + 1.
-- Assumes nothing.
use Rattle.std.proofs.Common.{refl, arith, length-set}
use Rattle.laws.proofs.Over.{over_next}
use Rattle.raw.proofs.transfer.copy_in.Goals as goal

pub loop-i-preserved : goal.loop-i-preserved
loop-i-preserved c =
    let l = c.loop-i in
    let a = c.args in (
      over_next a.src.now a.dst.now l.i 0 l.invariant.0 refl (omega arith) (omega arith),
      simp length-set l.invariant.1,
    )
