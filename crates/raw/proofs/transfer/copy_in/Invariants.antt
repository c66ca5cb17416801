-- The first i bytes, over what stood there.
use mathlib.Core.Path.{◌≡◌}
use lib.ListN.{length, take}
use Rattle.laws.specs.Over.{◌over◌}
use Rattle.raw.proofs.transfer.copy_in.Given as goal

abbrev pub invariant-loop-i : goal.invariant-loop-i
invariant-loop-i l = (l.dst ≡ take l.i l.src over l.initial.dst) × (length l.dst ≡ length l.initial.dst)
