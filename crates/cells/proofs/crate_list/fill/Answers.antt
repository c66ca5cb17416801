-- `cells::crate_list::fill` meets its contract: a turn goes on from i numbers to i + 1.
-- Assumes nothing.
use Rattle.std.proofs.Common.{pos, arith, length-set, w32}
use Rattle.laws.proofs.Over.{map_next}
use Rattle.numbers.proofs.Signed.{read_back}
use Rattle.bq769x0.specs.Figures.{volts}
use Rattle.cells.proofs.crate_list.fill.Goals as goal

pub loop-i-preserved : goal.loop-i-preserved
loop-i-preserved c =
    let l = c.loop-i in
    let a = c.args in (
      map_next volts a.cells.now a.list.now l.i (record { 0 = pos 0 }) l.invariant.0 (read_back w32 _ (omega arith)) (omega arith) (omega arith),
      simp length-set l.invariant.1,
    )
