-- The answer is that of the differences passed, and of what is left.
use Rattle.std.proofs.Common.{◌≡◌, [], ◌+◌, ◌*◌, ◌&&◌, eqb, take, drop}
use Rattle.frames.specs.Frames.{right}
use Rattle.frames.proofs.right_eight.Given as goal

abbrev pub invariant-loop-i : goal.invariant-loop-i
invariant-loop-i l =
    right [] (take 16 (drop (16 * l.k + 2) l.frame))
    ≡ (eqb l.wrong 0 && right [] (drop (2 * l.i) (take 16 (drop (16 * l.k + 2) l.frame))))
