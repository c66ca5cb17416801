-- So many agree as have been passed, and as agree of the rest.
use Rattle.std.proofs.Common.{◌≡◌, [], ◌∷◌, length}
use Rattle.frames.specs.Frames.{write_byte}
use Rattle.chip.specs.Chip.{agreed}
use Rattle.chip.proofs.Steps.{so_many}
use Rattle.chip.proofs.Chip.agreeing.Given as goal

abbrev pub invariant-loop-i : goal.invariant-loop-i
invariant-loop-i l =
    let head = write_byte l.self.address ∷ l.reg ∷ [] in
    so_many head l.bytes l.i ≡ length (agreed head l.bytes)
