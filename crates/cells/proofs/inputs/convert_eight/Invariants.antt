-- The first k + i inputs are held.
use Prim.Native.Nat.{◌+◌}
use Rattle.cells.specs.Inside.{Held}
use Rattle.cells.proofs.inputs.convert_eight.Given as goal

abbrev pub invariant-loop-i : goal.invariant-loop-i
invariant-loop-i l = Held l.adc l.buf (l.k + l.i) l.inputs
