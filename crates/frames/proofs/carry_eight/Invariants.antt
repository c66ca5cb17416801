-- With the data that is left in its place, `data` is as it has to be.
use Rattle.std.proofs.Common.{◌≡◌, ◌+◌, ◌*◌, take, drop}
use Rattle.frames.specs.Frames.{data_of}
use Rattle.frames.specs.Put.{put}
use Rattle.frames.proofs.carry_eight.Given as goal

abbrev pub invariant-loop-i : goal.invariant-loop-i
invariant-loop-i l =
    put l.«data» (8 * l.k + l.i) (data_of (drop (2 * l.i) (take 16 (drop (16 * l.k) l.frame))))
    ≡ put l.fn.«data» (8 * l.k) (data_of (take 16 (drop (16 * l.k) l.frame)))
