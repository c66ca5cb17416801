-- With what is left of the frame in its place, `out` is as it has to be.
use Rattle.std.proofs.Common.{◌≡◌, [], ◌∷◌, ◌+◌, ◌*◌, drop}
use Rattle.frames.specs.Frames.{write_byte, checked}
use Rattle.frames.specs.Put.{put}
use Rattle.frames.proofs.Steps.{before_at}
use Rattle.frames.proofs.put_checked.Given as goal

abbrev pub invariant-loop-i : goal.invariant-loop-i
invariant-loop-i l =
    let head = write_byte l.address ∷ l.reg ∷ [] in
    put l.out (2 * l.i + 1) (checked (before_at head l.i) (drop l.i l.«data»)) ≡ put l.fn.out 1 (checked head l.«data»)
