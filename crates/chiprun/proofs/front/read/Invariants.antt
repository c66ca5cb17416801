-- `chiprun::front::read` ends: each field is longer than nothing, and lies within the input. The calls begin behind field 20.
use Rattle.std.proofs.Common.{length, ◌-◌, ◌≤◌}
use Rattle.chiprun.proofs.front.read.Given as goal

abbrev pub invariant-loop-field : goal.invariant-loop-field
invariant-loop-field l = 7 ≤ l.at

abbrev pub decreases-loop-field : goal.decreases-loop-field
decreases-loop-field l = length l.input - l.at
