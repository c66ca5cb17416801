-- The three figures of a pack's cells, sum, lowest and highest; and when a record's are those of the cells that it holds.
-- Assumes nothing.
use Rattle.std.specs.Prelude.{ℕ, ◌≡◌, ℤ, pos, ◌+ℤ◌, take}
use mathlib.Core.List.{List, [], ◌∷◌, map, foldl}
use Rattle.std.specs.Int.Signed.{lt_z}
use Rattle.laws.specs.Choice.{when◌then◌else◌}
use Rattle.units.specs.declared.MilliVolts.{MilliVolts}
use Rattle.bq769x0.specs.declared.BQ769x0.{BQ769x0}
use Rattle.bq769x0.specs.declared.Spread.{Spread}

-- the first n cells, in mV
abbrev pub volts : MilliVolts → ℤ
volts cell = cell.0

abbrev pub first_cells : ℕ → List MilliVolts → List ℤ
first_cells n cells = take n (map volts cells)

-- of two numbers the lower, and the higher
abbrev pub lower : ℤ → ℤ → ℤ
lower a b = when lt_z b a then b else a

abbrev pub higher : ℤ → ℤ → ℤ
higher a b = when lt_z a b then b else a

-- all of a list by what is done with two: its sum, its lowest, its highest; 0 of none
abbrev pub all_by : (ℤ → ℤ → ℤ) → List ℤ → ℤ
all_by two [] = pos 0
all_by two (mv ∷ mvs) = foldl two mv mvs

abbrev pub spread_of : List ℤ → Spread
spread_of mvs = record {
  sum = record { 0 = all_by ◌+ℤ◌ mvs };
  lowest = record { 0 = all_by lower mvs };
  highest = record { 0 = all_by higher mvs };
}

-- the figures are those of the pack's cells by the wiring
abbrev pub Fits : BQ769x0 → Type 0
Fits d = d.readings.spread ≡ spread_of (first_cells d.cell_count d.readings.wired)
