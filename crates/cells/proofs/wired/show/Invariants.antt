-- The first i inputs, over what stood there.
use mathlib.Core.Path.{◌≡◌}
use lib.ListN.{length, take}
use Rattle.laws.specs.Over.{◌over◌}
use Rattle.cells.proofs.wired.show.Given as goal

abbrev pub invariant-loop-i : goal.invariant-loop-i
invariant-loop-i l = (l.inputs ≡ take l.i l.fitted over l.initial.inputs) × (length l.inputs ≡ length l.initial.inputs)
