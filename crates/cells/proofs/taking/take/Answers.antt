-- `cells::taking::take` meets its contract: what its steps store is what the definition takes.
-- Assumes nothing.
use Rattle.std.proofs.Common.{◌≤◌, length, T, sym, ap, subst, ◌∙◌}
use Rattle.sizes.specs.Sizes.{is_count}
use Rattle.bq769x0.specs.Figures.{first_cells}
use Rattle.bq769x0.specs.declared.Readings.{Readings}
use Rattle.cells.specs.Inside.{Small}
use Rattle.cells.proofs.Taken.{add_up, all, listed}
use Rattle.cells.proofs.taking.take.Goals as goal
use Rattle.cells.proofs.taking.take.Goals.{Start}

pack : (s : Start) → T (is_count s.args.x s.args.cell_count)
pack s = subst T (sym s.requires.pack) tt

adds_up : (s : Start) → let fitted = s.args.fitted.now in (1 ≤ length fitted) × (length fitted ≤ 15) × Small (length fitted) fitted
adds_up s =
    add_up s.args.x s.args.cell_count (pack s) s.args.readings.now s.args.inputs.now s.told-inputs s.requires.small _ s.requires.volts

pub spread_of-readings-requires : goal.spread_of-readings-requires
spread_of-readings-requires c = adds_up (goal.at.spread_of-readings-requires c).Start

pub store-requires : goal.store-requires
store-requires c = (adds_up (goal.at.store-requires c).Start).1

pub returns-clause-stored : goal.returns-clause-stored
returns-clause-stored c =
    let s = (goal.at.returns-clause-stored c).Start in
    all s.args.x s.args.cell_count (pack s) s.args.readings.now s.args.inputs.now s.told-inputs s.requires.small _ s.requires.volts
    c.in_turn.ensures c.store-2.ensures c.store.ensures c.spread_of-readings.ensures

pub returns-clause-moved : goal.returns-clause-moved
returns-clause-moved c =
    let s = (goal.at.returns-clause-moved c).Start in
    let stored =
    all s.args.x s.args.cell_count (pack s) s.args.readings.now s.args.inputs.now s.told-inputs s.requires.small _ s.requires.volts
    c.in_turn.ensures c.store-2.ensures c.store.ensures c.spread_of-readings.ensures in
    listed s.args.x s.args.cell_count (pack s) s.args.readings.now s.args.inputs.now s.told-inputs s.requires.small _ s.requires.volts
    c.in_turn.ensures
    ∙ ap (λ (r : Readings). first_cells s.args.cell_count r.cells) (sym stored)
