-- A set of inputs as one number: input i, counted from 1, is on where the number's bit i - 1 is set.
-- Assumes nothing.
use Rattle.std.specs.Prelude.{ℕ, ◌-◌, Bool, List, [], ◌∷◌}
use Rattle.units.specs.Flags.{bit}

abbrev pub is_on : ℕ → ℕ → Bool
is_on set input = bit (input - 1) set

-- the inputs that two bytes can name; no device has input 16
abbrev pub named : List ℕ
named = 1 ∷ 2 ∷ 3 ∷ 4 ∷ 5 ∷ 6 ∷ 7 ∷ 8 ∷ 9 ∷ 10 ∷ 11 ∷ 12 ∷ 13 ∷ 14 ∷ 15 ∷ 16 ∷ []

-- the inputs in their blocks of five
abbrev pub blocks : List (List ℕ)
blocks =
    (1 ∷ 2 ∷ 3 ∷ 4 ∷ 5 ∷ []) ∷
    (6 ∷ 7 ∷ 8 ∷ 9 ∷ 10 ∷ []) ∷
    (11 ∷ 12 ∷ 13 ∷ 14 ∷ 15 ∷ []) ∷
    []
