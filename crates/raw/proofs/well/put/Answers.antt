-- The field of the write stands in the log.
-- Assumes nothing.
use Rattle.std.proofs.Common.{◌+◌, length, arith, refl}
use native.Mathlib.Nat.{add-zero}
use Rattle.bus.specs.Transfers.{write, log_field, wanted}
use Rattle.bus.specs.Lent.{held}
use Rattle.raw.proofs.Moves.{written_by, need}
use Rattle.raw.proofs.well.put.Goals as goal

pub returns : goal.returns
unfolding log_field wanted
returns c =
    let a = c.args in (
      rw add-zero at (written_by (write a.address a.frame.now) (held a.bus.now) _ _ c.requires.heard _ (a.bus.now.at.log + 4 + length a.frame.now) _
          c.put_field.ensures (need a.address a.frame.now) (omega arith) refl),
      refl,
    )
