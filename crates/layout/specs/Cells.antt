-- Millivolts in the caller's bytes: four each, in two's complement, high byte first.
-- Assumes nothing.
use Rattle.std.specs.Prelude.{ℕ, ◌*◌, Bool, ◌&&◌, List, [], ◌∷◌, ◌++◌, leb, ℤ, length, take}
use Rattle.laws.specs.Choice.{when◌then◌else◌}
use Rattle.frames.specs.Put.{put}
use Rattle.numbers.specs.Numbers.{four, as_u32}

abbrev pub cell_bytes : List ℤ → List ℕ
cell_bytes [] = []
cell_bytes (mv ∷ mvs) = four (as_u32 mv) ++ cell_bytes mvs

-- the first n cells, at the list's start
abbrev pub stored : ℕ → List ℤ → List ℕ → List ℕ
stored n cells list = put list 0 (cell_bytes (take n cells))

-- four bytes a cell, and no device has more than 15
abbrev pub has_room : ℕ → ℕ → Bool
has_room n bytes = leb (4 * n) bytes && leb n 15

-- where there is room; else the list as it was
abbrev pub stored_in : ℕ → List ℤ → List ℕ → List ℕ
stored_in n cells list = when has_room n (length list) then stored n cells list else list
