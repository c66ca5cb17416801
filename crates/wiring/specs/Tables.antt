-- The datasheet's cell connection tables: for each device and count of cells the inputs that the cells sit on, bottom of the pack first.
-- Assumes nothing.
use Rattle.std.specs.Prelude.{ℕ, cond, ◌&&◌, List, [], ◌∷◌, eqb}

-- a device, a count of cells, and what a table has for them
pub record Row : Type 0 where
  pub x : ℕ
  pub cells : ℕ
  pub numbers : List ℕ

abbrev pub row : ℕ → ℕ → List ℕ → Row
row x cells numbers = record { x = x; cells = cells; numbers = numbers }

abbrev pub connections : List Row
connections =
    row 5 3 (1 ∷ 2 ∷ 5 ∷ []) ∷
    row 5 4 (1 ∷ 2 ∷ 3 ∷ 5 ∷ []) ∷
    row 5 5 (1 ∷ 2 ∷ 3 ∷ 4 ∷ 5 ∷ []) ∷
    row 10 6 (1 ∷ 2 ∷ 5 ∷ 6 ∷ 7 ∷ 10 ∷ []) ∷
    row 10 7 (1 ∷ 2 ∷ 3 ∷ 5 ∷ 6 ∷ 7 ∷ 10 ∷ []) ∷
    row 10 8 (1 ∷ 2 ∷ 3 ∷ 5 ∷ 6 ∷ 7 ∷ 8 ∷ 10 ∷ []) ∷
    row 10 9 (1 ∷ 2 ∷ 3 ∷ 4 ∷ 5 ∷ 6 ∷ 7 ∷ 8 ∷ 10 ∷ []) ∷
    row 10 10 (1 ∷ 2 ∷ 3 ∷ 4 ∷ 5 ∷ 6 ∷ 7 ∷ 8 ∷ 9 ∷ 10 ∷ []) ∷
    row 15 9 (1 ∷ 2 ∷ 5 ∷ 6 ∷ 7 ∷ 10 ∷ 11 ∷ 12 ∷ 15 ∷ []) ∷
    row 15 10 (1 ∷ 2 ∷ 3 ∷ 5 ∷ 6 ∷ 7 ∷ 10 ∷ 11 ∷ 12 ∷ 15 ∷ []) ∷
    row 15 11 (1 ∷ 2 ∷ 3 ∷ 5 ∷ 6 ∷ 7 ∷ 8 ∷ 10 ∷ 11 ∷ 12 ∷ 15 ∷ []) ∷
    row 15 12 (1 ∷ 2 ∷ 3 ∷ 5 ∷ 6 ∷ 7 ∷ 8 ∷ 10 ∷ 11 ∷ 12 ∷ 13 ∷ 15 ∷ []) ∷
    row 15 13 (1 ∷ 2 ∷ 3 ∷ 4 ∷ 5 ∷ 6 ∷ 7 ∷ 8 ∷ 10 ∷ 11 ∷ 12 ∷ 13 ∷ 15 ∷ []) ∷
    row 15 14 (1 ∷ 2 ∷ 3 ∷ 4 ∷ 5 ∷ 6 ∷ 7 ∷ 8 ∷ 9 ∷ 10 ∷ 11 ∷ 12 ∷ 13 ∷ 15 ∷ []) ∷
    row 15 15 (1 ∷ 2 ∷ 3 ∷ 4 ∷ 5 ∷ 6 ∷ 7 ∷ 8 ∷ 9 ∷ 10 ∷ 11 ∷ 12 ∷ 13 ∷ 14 ∷ 15 ∷ []) ∷
    []

-- what a table has for a device and a count; nothing where it has no such row
abbrev pub row_of : List Row → ℕ → ℕ → List ℕ
row_of [] x n = []
row_of (r ∷ rows) x n = cond (eqb x r.x && eqb n r.cells) r.numbers (row_of rows x n)

-- the inputs of a pack's cells
unfoldable pub fitted : ℕ → ℕ → List ℕ
fitted x n = row_of connections x n
