-- `balance_set` keeps its promise by the call's own, and demand 3 follows from that promise: a set is of 16 bits.
-- Assumes nothing.
use native.Mathlib.Omega.{arith}
use Rattle.runs.proofs.Calls.{promised}
use Rattle.model.proofs.Balance.{demand_3}
use Rattle.recovered.proofs.balance_set.Goals as goal

pub returns : goal.returns
returns c =
    (c.balance_set.ensures, demand_3 _ _ _ (omega arith) (promised _ _ _ _ c.balance_set.ensures.0))
