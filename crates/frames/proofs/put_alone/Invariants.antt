-- With the data that is left in its place, `out` is as it has to be.
use Rattle.std.proofs.Common.{◌≡◌, ◌+◌, drop}
use Rattle.frames.specs.Put.{put}
use Rattle.frames.proofs.put_alone.Given as goal

abbrev pub invariant-loop-i : goal.invariant-loop-i
invariant-loop-i l = put l.out (l.i + 1) (drop l.i l.«data») ≡ put l.fn.out 1 l.«data»
