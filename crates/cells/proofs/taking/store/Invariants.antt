-- The first i numbers' cells, over those held.
use mathlib.Core.Path.{◌≡◌}
use lib.ListN.{length, take}
use Rattle.laws.specs.Over.{◌over◌}
use Rattle.procedure.specs.Inputs.{as_cells}
use Rattle.cells.proofs.taking.store.Given as goal

abbrev pub invariant-loop-i : goal.invariant-loop-i
invariant-loop-i l = (l.cells ≡ take l.i (as_cells l.millivolts) over l.initial.cells) × (length l.initial.cells ≡ 15)
