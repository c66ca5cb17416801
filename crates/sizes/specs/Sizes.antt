-- The three devices, each named by its count of cell inputs, and the counts of cells that a pack on each may have.
-- Assumes nothing.
use Rattle.std.specs.Prelude.{ℕ, Bool, ◌&&◌, ◌||◌, eqb, leb}

-- BQ76920, BQ76930 and BQ76940 have 5, 10 and 15 inputs
abbrev pub is_size : ℕ → Bool
is_size x = eqb x 5 || eqb x 10 || eqb x 15

abbrev pub within : ℕ → ℕ → ℕ → Bool
within low high n = leb low n && leb n high

-- 3 to 5, 6 to 10 or 9 to 15 cells
abbrev pub is_count : ℕ → ℕ → Bool
is_count x n = eqb x 5 && within 3 5 n || eqb x 10 && within 6 10 n || eqb x 15 && within 9 15 n
