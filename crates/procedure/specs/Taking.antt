-- What an accepted reading of all inputs leaves in the record, by whichever list it was asked for: both lists, and the figures of the wired one.
-- Assumes nothing.
use Rattle.std.specs.Prelude.{ℕ, ◌-◌, List, map, ℤ, pos, get_or}
use Rattle.laws.specs.Over.{◌over◌}
use Rattle.wiring.specs.Tables.{fitted}
use Rattle.moves.specs.Moves.{moves, in_turn}
use Rattle.bq769x0.specs.Record.{with_readings}
use Rattle.bq769x0.specs.Figures.{spread_of}
use Rattle.bq769x0.specs.declared.BQ769x0.{BQ769x0}
use Rattle.bq769x0.specs.declared.Readings.{Readings}
use Rattle.procedure.specs.Inputs.{as_cell, as_cells}

-- of a reading of all inputs that of one, from 1
abbrev pub of_input : List ℤ → ℕ → ℤ
of_input readings input = get_or readings (input - 1) (pos 0)

-- and those of the fitted ones, bottom of the pack first
abbrev pub voltages : ℕ → ℕ → List ℤ → List ℤ
voltages x n readings = map (of_input readings) (fitted x n)

-- the crate's list, with the moves made, and the wired one; in either the places after them keep what they held
abbrev pub taken : ℕ → ℕ → Readings → List ℤ → Readings
taken x n held readings = record {
  cells = in_turn (as_cell (pos 0)) (moves x n) (as_cells readings over held.cells);
  wired = as_cells (voltages x n readings) over held.wired;
  spread = spread_of (voltages x n readings);
}

abbrev pub taking : BQ769x0 → List ℤ → BQ769x0
taking d readings = with_readings d (taken d.link.x d.cell_count d.readings readings)
