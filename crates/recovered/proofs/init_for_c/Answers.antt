-- `init_for_c` keeps its promise by the call's own. By what C has of it the call keeps that of its program, and demand 3 follows.
-- Assumes nothing.
use Rattle.recovered.proofs.ForC.{kept}
use Rattle.recovered.proofs.InitForC.{demand_3}
use Rattle.recovered.proofs.init_for_c.Goals as goal

pub returns : goal.returns
returns c =
    let promise = c.bq769x0_init.ensures in
    (promise, demand_3 _ (kept _ _ _ _ promise))
