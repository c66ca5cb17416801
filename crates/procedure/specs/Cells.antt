-- The cells as a program beside the crate's `cell_voltages`, and what is handed back of the record's cells.
-- Assumes nothing.
use Rattle.std.specs.Prelude.{ℕ, not, ◌||◌, List, [], ltb, ℤ, length}
use Rattle.refusals.specs.Refusal.{Refusal, Answer, value, refused, refused_if, nine}
use Rattle.units.specs.declared.MilliVolts.{MilliVolts}
use Rattle.laws.specs.Choice.{when◌then◌else◌}
use Rattle.laws.specs.Over.{◌over◌}
use Rattle.bus.specs.Programs.{Prog, ret, ◌or_leave◌, ◌>>=◌}
use Rattle.bus.specs.Raw.{Done}
use Rattle.bq769x0.specs.Figures.{first_cells}
use Rattle.bq769x0.specs.Registers.{soundly}
use Rattle.bq769x0.specs.declared.BQ769x0.{BQ769x0}
use Rattle.procedure.specs.Inputs.{read_inputs}
use Rattle.procedure.specs.Taking.{taking}

-- an answer, and the record and the caller's list then
pub record Filled : Type 0 where
  pub answer : Answer Done
  pub device : BQ769x0
  pub list : List ℤ

abbrev pub filled : Answer Done → BQ769x0 → List ℤ → Filled
filled a d list = record { answer = a; device = d; list = list }

-- nothing of record and list is touched
abbrev pub untouched : BQ769x0 → List ℤ → Refusal → Filled
untouched d list r = filled (refused r) d list

-- 4 before 19
abbrev pub ready : BQ769x0 → ℕ → Answer Done
ready d room = refused_if (not d.init_complete) 4 (refused_if (ltb room d.cell_count) 19 (value tt))

abbrev pub listed : BQ769x0 → List ℤ → Filled
listed d list = filled (value tt) d (first_cells d.cell_count d.readings.cells over list)

unfoldable pub read_cells : BQ769x0 → List ℤ → Prog Filled
read_cells d list = do
  inputs ← read_inputs d.link d.adc or_leave untouched d list
  ret (listed (taking d inputs) list)

unfoldable pub cell_voltages : BQ769x0 → List ℤ → Prog Filled
cell_voltages d list = soundly d (untouched d list nine) (do
  _ ← ret (ready d (length list)) or_leave untouched d list
  read_cells d list)

-- the leading part of a list with room for so many; nothing where the count exceeds the room or 15
abbrev pub handed_back : ℕ → List MilliVolts → ℕ → List ℤ
handed_back n cells room = when ltb room n || ltb 15 n then [] else first_cells n cells
