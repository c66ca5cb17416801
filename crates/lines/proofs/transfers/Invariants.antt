-- `lines::transfers` ends: what follows a field is shorter than what the field begins.
use Rattle.std.proofs.Common.{length}
use Rattle.lines.proofs.transfers.Given as goal

abbrev pub decreases-loop-transfer : goal.decreases-loop-transfer
decreases-loop-transfer g l = length l.left
