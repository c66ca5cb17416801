-- The step that a number of millivolts names.
-- Assumes nothing.
use Rattle.std.specs.Prelude.{ℕ, cond, List, [], ◌∷◌, eqb}

-- the first of a list whose number is n, or `none` where no one's is
abbrev pub first_at : {A : Type 0} → (A → ℕ) → A → List A → ℕ → A
first_at number none [] n = none
first_at number none (x ∷ xs) n = cond (eqb (number x) n) x (first_at number none xs n)
