-- `call_text::in_turn` ends: each field is longer than nothing, and lies within the job. So there are no more calls than bytes, and their count fits.
use Rattle.std.proofs.Common.{length, ◌-◌, ◌≤◌}
use Rattle.call_text.proofs.in_turn.Given as goal

abbrev pub invariant-loop-field : goal.invariant-loop-field
invariant-loop-field g l = l.number ≤ l.at

abbrev pub decreases-loop-field : goal.decreases-loop-field
decreases-loop-field g l = length l.job - l.at
