use Rattle.std.proofs.Common.{◌≡◌, length}
use Rattle.layout.specs.Cells.{stored}
use Rattle.layout.proofs.list.put_numbers.Given as goal

abbrev pub invariant-loop-i : goal.invariant-loop-i
invariant-loop-i l = (l.list ≡ stored l.i l.millivolts l.initial.list) × (length l.list ≡ length l.initial.list)
