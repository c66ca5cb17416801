-- The moves of the crate's `cell_voltages`, in its order: by X and the count alone, one cell goes over another. Places
-- count from 0.
-- Assumes nothing.
use Rattle.std.specs.Prelude.{ℕ, Bool, true, false, not, ◌&&◌, ◌||◌, List, [], ◌∷◌, eqb, take, get_or, set}

pub record Move : Type 0 where
  pub when : Bool
  pub to : ℕ
  pub from : ℕ

abbrev pub move : Bool → ℕ → ℕ → Move
move when to from = record { when = when; to = to; from = from }

abbrev pub moves : ℕ → ℕ → List Move
moves x cc =
    let first = eqb cc 3 || eqb cc 6 || eqb cc 9 in
    let second = eqb cc 4 || eqb cc 7 || eqb cc 8 || eqb cc 10 || eqb cc 11 || eqb cc 12 in
    let third = eqb cc 6 || eqb cc 7 || eqb cc 9 || eqb cc 10 in
    let fourth = eqb cc 8 || eqb cc 9 || eqb cc 11 || eqb cc 12 || eqb cc 13 in
    let fifth = eqb cc 9 || eqb cc 10 || eqb cc 11 in
    let sixth = eqb cc 12 || eqb cc 13 || eqb cc 14 in
    move first 2 4 ∷
    move (not first && second) 3 4 ∷
    move ((eqb x 10 || eqb x 15) && third) 7 9 ∷
    move ((eqb x 10 || eqb x 15) && fourth) 8 9 ∷
    move (eqb x 15 && fifth) 12 14 ∷
    move (eqb x 15 && sixth) 13 14 ∷
    []

-- one cell over another; `none` is what would stand past the end of the cells
abbrev pub moved_if : {A : Type 0} → A → Bool → ℕ → ℕ → List A → List A
moved_if none true to from cells = set cells to (get_or cells from none)
moved_if none false to from cells = cells

abbrev pub in_turn : {A : Type 0} → A → List Move → List A → List A
in_turn none [] cells = cells
in_turn none (m ∷ ms) cells = in_turn none ms (moved_if none m.when m.to m.from cells)

-- ---- which inputs the first n cells are then: each is named by its input's number
abbrev pub names : List ℕ
names = 1 ∷ 2 ∷ 3 ∷ 4 ∷ 5 ∷ 6 ∷ 7 ∷ 8 ∷ 9 ∷ 10 ∷ 11 ∷ 12 ∷ 13 ∷ 14 ∷ 15 ∷ []

abbrev pub inputs_of : ℕ → ℕ → List ℕ
inputs_of x n = take n (in_turn 0 (moves x n) names)
