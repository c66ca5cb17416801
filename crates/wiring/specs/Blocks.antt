-- The rule behind the tables: the inputs come in blocks of five, the lowest block first. A block that has five cells fits all its inputs;
-- in one that has four the fourth input is shorted, in one that has three the third and the fourth.
-- Assumes nothing.
use Rattle.std.specs.Prelude.{ℕ, ◌+◌, ◌-◌, ◌/◌, ◌%◌, Bool, ◌&&◌, ◌||◌, List, [], ◌∷◌, eqb, ltb, get_or}
use Rattle.wiring.specs.Tables.{Row, row, row_of}

-- the cells in each block
abbrev pub blocks : List Row
blocks =
    row 5 3 (3 ∷ []) ∷
    row 5 4 (4 ∷ []) ∷
    row 5 5 (5 ∷ []) ∷
    row 10 6 (3 ∷ 3 ∷ []) ∷
    row 10 7 (4 ∷ 3 ∷ []) ∷
    row 10 8 (4 ∷ 4 ∷ []) ∷
    row 10 9 (5 ∷ 4 ∷ []) ∷
    row 10 10 (5 ∷ 5 ∷ []) ∷
    row 15 9 (3 ∷ 3 ∷ 3 ∷ []) ∷
    row 15 10 (4 ∷ 3 ∷ 3 ∷ []) ∷
    row 15 11 (4 ∷ 4 ∷ 3 ∷ []) ∷
    row 15 12 (4 ∷ 4 ∷ 4 ∷ []) ∷
    row 15 13 (5 ∷ 4 ∷ 4 ∷ []) ∷
    row 15 14 (5 ∷ 5 ∷ 4 ∷ []) ∷
    row 15 15 (5 ∷ 5 ∷ 5 ∷ []) ∷
    []

-- whether the input at a place, from 1, of a block with so many cells is shorted
abbrev pub shorted_at : ℕ → ℕ → Bool
shorted_at cells place = eqb cells 4 && eqb place 4 || eqb cells 3 && (eqb place 3 || eqb place 4)

unfoldable pub shorted : ℕ → ℕ → ℕ → Bool
shorted x n input = shorted_at (get_or (row_of blocks x n) ((input - 1) / 5) 0) ((input - 1) % 5 + 1)

-- an input that carries no cell: 0, one that the device does not have, or a shorted one
unfoldable pub bare : ℕ → ℕ → ℕ → Bool
bare x n input = eqb input 0 || ltb x input || shorted x n input
