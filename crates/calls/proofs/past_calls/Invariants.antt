-- The walk from the place reached, over the fields that can still stand there, stops where the whole walk does.
use Rattle.std.proofs.Common.{◌≡◌, ℕ, ◌+◌, ◌-◌, ◌≤◌, length, drop}
use Rattle.calls.specs.Heads.{past_from}
use Rattle.calls.proofs.past_calls.Given as goal

abbrev pub invariant-loop-field : goal.invariant-loop-field
invariant-loop-field l =
    (fields : ℕ) × (length l.input ≤ l.at + fields)
    × (past_from (length l.input) l.calls_at (drop l.calls_at l.input) ≡ past_from fields l.at (drop l.at l.input))

abbrev pub decreases-loop-field : goal.decreases-loop-field
decreases-loop-field l = length l.input - l.at
