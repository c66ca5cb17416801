-- The crate's list by the inputs moved before they are stored: no pack has a move that reaches past the device's inputs, and none more cells than
-- these.
-- Assumes nothing.
use mathlib.Core.Path.{◌≡◌, refl, sym, ap, ◌∙◌}
use mathlib.Core.List.{List, [], ◌∷◌, ◌++◌, map}
use Prim.Native.Nat.{ℕ, ◌≤◌}
use native.Mathlib.Omega.{arith}
use lib.Dec.{T, leb, leb→le}
use lib.IntN.{ℤ, pos}
use lib.ListN.{length, take, drop, length-map, take-append-drop}
use lib.Seq.{take_at, take-take, take-append-le, length-take-le}
use Rattle.laws.specs.Over.{◌over◌}
use Rattle.laws.proofs.Lists.{map_take}
use Rattle.units.specs.declared.MilliVolts.{MilliVolts}
use Rattle.wiring.proofs.Packs.{of_pack_lem}
use Rattle.moves.specs.Moves.{Move, moves, in_turn}
use Rattle.moves.proofs.CrateList.{turned_map}
use Rattle.moves.proofs.Front.{in_front, length_turned, turned_front}
use Rattle.sizes.specs.Sizes.{is_count}
use Rattle.bq769x0.specs.Figures.{volts, first_cells}
use Rattle.bq769x0.specs.declared.Readings.{Readings}
use Rattle.procedure.specs.Inputs.{as_cell, as_cells}
use Rattle.procedure.specs.Taking.{taken}

-- numbers as cells, and those as numbers
pub as_held : (l : List ℤ) → map volts (as_cells l) ≡ l
as_held [] = refl
as_held (mv ∷ l) = ap (λ (r : List ℤ). mv ∷ r) (as_held l)

module _ (x n : ℕ) (pack : T (is_count x n)) (held : Readings) where
  abbrev all : List Move
  all = moves x n

  no_more : n ≤ x
  no_more = leb→le n x (of_pack_lem (λ y m. leb m y) tt x n pack)

  in_front_is : T (in_front x all)
  in_front_is = of_pack_lem (λ y m. in_front y (moves y m)) tt x n pack

  -- what the code's steps say: the first X numbers are the readings', the moves were made on all of them
  module _ (readings inputs moved : List ℤ) (room : x ≤ length inputs)
      (read : take x inputs ≡ readings)
      (turned : moved ≡ in_turn (pos 0) all inputs) where
    size : length readings ≡ x
    size = ap length (sym read) ∙ length-take-le x inputs room

    first : take x moved ≡ in_turn (pos 0) all readings
    first =
        let rest = drop x inputs in
        ap (take x) turned
        ∙ ap (λ (l : List ℤ). take x (in_turn (pos 0) all l)) (sym (take-append-drop x inputs))
        ∙ ap (λ (l : List ℤ). take x (in_turn (pos 0) all (l ++ rest))) read
        ∙ ap (take x) (turned_front (pos 0) all x readings rest size in_front_is)
        ∙ take_at (in_turn (pos 0) all readings) rest x (length_turned (pos 0) all readings ∙ size)

    pub stored : as_cells (take x moved) over held.cells ≡ (taken x n held readings).cells
    stored =
        let none = as_cell (pos 0) in
        let cells = length-map readings as_cell in
        ap (λ (l : List ℤ). as_cells l over held.cells) first
        ∙ ap (λ (l : List MilliVolts). l over held.cells) (sym (turned_map as_cell (pos 0) all readings))
        ∙ ap (λ (k : ℕ). in_turn none all (as_cells readings) ++ drop k held.cells) (length_turned none all (as_cells readings))
        ∙ sym (turned_front none all x (as_cells readings) (drop (length (as_cells readings)) held.cells) (cells ∙ size) in_front_is)

    -- and its first cells are the first of the moved numbers
    pub listed_first : take n moved ≡ first_cells n (taken x n held readings).cells
    listed_first =
        let front = as_cells (take x moved) in
        let behind = drop (length front) held.cells in
        let enough : n ≤ length front =
        omega (arith, no_more, size, ap length first, length_turned (pos 0) all readings, length-map (take x moved) as_cell) in
        sym (take-take n x moved no_more)
        ∙ ap (take n) (sym (as_held (take x moved)))
        ∙ sym (map_take volts n front)
        ∙ ap (map volts) (sym (take-append-le n front behind enough))
        ∙ map_take volts n (front ++ behind)
        ∙ ap (first_cells n) stored
