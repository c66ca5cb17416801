-- `cells::crate_list::cells_of` meets its contract: the record's cells stand first in the list.
-- Assumes nothing.
use Rattle.std.proofs.Common.{◌≡◌, length, take, ◌∙◌, arith, rules}
use lib.ListN.{length-map}
use lib.Seq.{take_at}
use mathlib.Core.List.{map}
use Rattle.laws.proofs.Lists.{map_take}
use Rattle.bq769x0.specs.Figures.{volts, first_cells}
use Rattle.cells.proofs.crate_list.cells_of.Goals as goal

pub returns : goal.returns
returns c =
    let d = c.args.device.now in
    let n = d.cell_count in
    let cells = d.readings.cells in
    let same : map volts (take n cells) ≡ first_cells n cells = map_take volts n cells in
    let many : length (map volts (take n cells)) ≡ n = omega (arith, length-map (take n cells) volts) in
    let first : take n c.fill.new.list ≡ first_cells n cells = rw c.fill.ensures (take_at (map volts (take n cells)) _ n many ∙ same) in
    search (rules, first)
