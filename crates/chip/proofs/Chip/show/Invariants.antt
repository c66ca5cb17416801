-- The bytes stored so far are the first of those shown.
use Rattle.std.proofs.Common.{◌≡◌, ℕ, ◌≤◌}
use lib.Seq.{paste}
use Rattle.chip.specs.Chip.{shows}
use Rattle.chip.proofs.Chip.show.Given as goal

abbrev pub invariant-loop-i : goal.invariant-loop-i
invariant-loop-i l = (m : ℕ) → l.n ≤ m → l.tape ≡ paste l.initial.tape l.at (shows l.self l.reg m) l.i
