-- The first i cells' numbers, over what stood in the list.
use mathlib.Core.Path.{◌≡◌}
use mathlib.Core.List.{map}
use lib.ListN.{length, take}
use Rattle.laws.specs.Over.{◌over◌}
use Rattle.bq769x0.specs.Figures.{volts}
use Rattle.cells.proofs.crate_list.fill.Given as goal

abbrev pub invariant-loop-i : goal.invariant-loop-i
invariant-loop-i l = (l.list ≡ take l.i (map volts l.cells) over l.initial.list) × (length l.list ≡ length l.initial.list)
