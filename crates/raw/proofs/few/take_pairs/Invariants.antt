-- Right is what is tested and what is left; with the bytes that are left in their place, the data are the frame's.
use Rattle.std.proofs.Common.{◌≡◌, [], ◌∷◌, ◌*◌, ◌&&◌, drop}
use Rattle.frames.specs.Frames.{read_byte, right, data_of}
use Rattle.frames.specs.Put.{put}
use Rattle.raw.proofs.few.take_pairs.Given as goal

abbrev pub invariant-loop-i : goal.invariant-loop-i
invariant-loop-i l = right (read_byte l.address ∷ []) l.frame ≡ (l.right && right [] (drop (2 * l.i) l.frame))

abbrev pub invariant-loop-i-2 : goal.invariant-loop-i-2
invariant-loop-i-2 l = put l.«data» l.i (data_of (drop (2 * l.i) l.frame)) ≡ put l.fn.«data» 0 (data_of l.frame)
