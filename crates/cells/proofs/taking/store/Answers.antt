-- `cells::taking::store` meets its contract: a turn goes on from i cells to i + 1.
-- Assumes nothing.
use Rattle.std.proofs.Common.{pos, ap, arith, w32}
use Rattle.laws.proofs.Over.{map_next}
use Rattle.numbers.proofs.Signed.{read_back}
use Rattle.procedure.specs.Inputs.{as_cell}
use Rattle.cells.proofs.taking.store.Goals as goal

pub loop-i-preserved : goal.loop-i-preserved
loop-i-preserved c =
    let l = c.loop-i in
    let a = c.args in (
      map_next as_cell a.millivolts.now a.cells.now l.i (pos 0) l.invariant.0 (ap as_cell (read_back w32 _ (omega arith))) (omega arith) (omega arith),
      l.invariant.1,
    )
