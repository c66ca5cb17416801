-- `layout::list::put_three` meets its contract: each number is read back from its bits. Assumes nothing.
use Rattle.std.proofs.Common.{rules, ◌∙◌}
use mir.Facts.{to_z-of_z}
use Rattle.layout.proofs.CellBytes.{all_three}
use Rattle.layout.proofs.list.put_three.Goals as goal

pub returns : goal.returns
returns c =
    rw (to_z-of_z c.ranges.first, to_z-of_z c.ranges.second, to_z-of_z c.ranges.third) at c.put_numbers.ensures
    ∙ all_three c.args.bytes.now (search rules) c.args.first c.args.second c.args.third
