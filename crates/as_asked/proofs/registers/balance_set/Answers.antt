-- By the promise of the call: a set is of sixteen bits, and a tape of bytes.
-- Assumes nothing.
use Rattle.std.proofs.Common.{arith}
use Rattle.as_asked.proofs.Balancing.{set_shows}
use Rattle.as_asked.proofs.registers.balance_set.Goals as goal

pub returns : goal.returns
returns c = set_shows _ c.args.set c.args.limit (omega arith) _ _ c.of_bytes.ensures c.balance_set.ensures
