-- The first i fitted inputs' millivolts, over what stood in the list.
use mathlib.Core.Path.{◌≡◌}
use mathlib.Core.List.{map}
use lib.ListN.{length, take}
use Rattle.laws.specs.Over.{◌over◌}
use Rattle.procedure.specs.Taking.{of_input}
use Rattle.cells.proofs.taking.by_wiring.Given as goal

abbrev pub invariant-loop-i : goal.invariant-loop-i
invariant-loop-i l =
    (l.list ≡ take l.i (map (of_input l.inputs) l.fitted) over l.initial.list) × (length l.list ≡ length l.initial.list)
