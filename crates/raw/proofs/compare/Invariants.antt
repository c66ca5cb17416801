-- What is left to compare gives what the whole gives.
use Rattle.std.proofs.Common.{◌≡◌, ◌+◌, ◌-◌, ◌≤◌, length, drop}
use Rattle.bus.specs.Raw.{compared}
use Rattle.raw.proofs.compare.Given as goal

abbrev pub invariant-loop-i : goal.invariant-loop-i
invariant-loop-i l =
    (l.i ≤ length l.«data») × (compared l.reg l.«data» l.back ≡ compared (l.reg + l.i) (drop l.i l.«data») (drop l.i l.back))

abbrev pub decreases-loop-i : goal.decreases-loop-i
decreases-loop-i l = length l.«data» - l.i
