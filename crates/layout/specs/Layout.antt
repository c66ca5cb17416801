-- The 36 bytes of an init, in which every number has its high byte first:
-- how far the tape is used, and how far the log, in eight bytes each, and then five numbers in four bytes each.
-- Assumes nothing.
use Rattle.std.specs.Prelude.{ℕ, List, ◌++◌}
use Rattle.plan.specs.declared.answer.InitNumbers.{InitNumbers}
use Rattle.numbers.specs.Numbers.{four, eight}
use Rattle.bus.specs.declared.Cursor.{Cursor}

unfoldable pub laid : Cursor → InitNumbers → List ℕ
laid at numbers =
    eight at.tape ++ eight at.log
    ++ four numbers.0 ++ four numbers.1 ++ four numbers.2 ++ four numbers.3 ++ four numbers.4
