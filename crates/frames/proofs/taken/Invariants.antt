-- The answer is that of the pairs left, and `data` has the data of those passed.
use Rattle.std.proofs.Common.{◌-◌, ◌≡◌, [], ◌∷◌, ◌+◌, ◌*◌, take, drop}
use Rattle.frames.specs.Frames.{read_byte, right, data_of}
use Rattle.frames.specs.Put.{put}
use Rattle.frames.proofs.taken.Given as goal

abbrev pub invariant-loop-k : goal.invariant-loop-k
invariant-loop-k l =
    (right (read_byte l.address ∷ []) (take (16 * l.eights + 2) l.frame)
    ≡ right [] (take (16 * (l.eights - l.k)) (drop (16 * l.k + 2) l.frame)))
    × (l.«data» ≡ put l.fn.«data» 0 (data_of (take (16 * l.k) l.frame)))
