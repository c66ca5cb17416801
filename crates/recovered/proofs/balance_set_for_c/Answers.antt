-- `balance_set_for_c` keeps its promise by the call's own. By what C has of it the call keeps that of its program, and demand 3 follows.
-- Assumes nothing.
use native.Mathlib.Omega.{arith}
use Rattle.recovered.proofs.ForC.{kept}
use Rattle.recovered.proofs.SetForC.{demand_3}
use Rattle.recovered.proofs.balance_set_for_c.Goals as goal

pub returns : goal.returns
returns c =
    let promise = c.bq769x0_balance_set.ensures in
    (promise, demand_3 _ _ _ (omega arith) (kept _ _ _ _ promise))
