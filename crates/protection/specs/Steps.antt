-- The published steps of the two ranges, in millivolts across the shunt, by their codes from 0, and the choice of a step over them.
-- Assumes nothing.
use Rattle.std.specs.Prelude.{ℕ, ◌*◌, ◌/◌, min, max, cond, List, [], ◌∷◌, leb, ltb}
use Rattle.refusals.specs.Refusal.{Answer, value, refused, no}

abbrev pub scd_lower : List ℕ
scd_lower = 22 ∷ 33 ∷ 44 ∷ 56 ∷ 67 ∷ 78 ∷ 89 ∷ 100 ∷ []

abbrev pub scd_upper : List ℕ
scd_upper = 44 ∷ 67 ∷ 89 ∷ 111 ∷ 133 ∷ 155 ∷ 178 ∷ 200 ∷ []

abbrev pub ocd_lower : List ℕ
ocd_lower = 8 ∷ 11 ∷ 14 ∷ 17 ∷ 19 ∷ 22 ∷ 25 ∷ 28 ∷ 31 ∷ 33 ∷ 36 ∷ 39 ∷ 42 ∷ 44 ∷ 47 ∷ 50 ∷ []

abbrev pub ocd_upper : List ℕ
ocd_upper = 17 ∷ 22 ∷ 28 ∷ 33 ∷ 39 ∷ 44 ∷ 50 ∷ 56 ∷ 61 ∷ 67 ∷ 72 ∷ 78 ∷ 83 ∷ 89 ∷ 94 ∷ 100 ∷ []

-- the numbers of xs at or above n
abbrev pub at_least : ℕ → List ℕ → List ℕ
at_least n [] = []
at_least n (x ∷ xs) = cond (leb n x) (x ∷ at_least n xs) (at_least n xs)

abbrev pub highest : List ℕ → ℕ
highest [] = 0
highest (x ∷ xs) = max x (highest xs)

-- the least of xs, or `none` where xs is empty
abbrev pub least_or : ℕ → List ℕ → ℕ
least_or none [] = none
least_or none (x ∷ xs) = min x (least_or x xs)

-- the least of xs at or above n, or the highest of xs where none is
unfoldable pub step : List ℕ → ℕ → ℕ
step xs n = least_or (highest xs) (at_least n xs)

-- the millivolts that a current makes across the shunt, the fraction dropped; from 256 on the current is refused
unfoldable pub mv_across : ℕ → ℕ → Answer ℕ
mv_across amperes microohms =
    cond (ltb (amperes * microohms) 256000) (value (amperes * microohms / 1000)) (refused (no 13 []))

abbrev pub chosen : List ℕ → Answer ℕ → Answer ℕ
chosen xs (value n) = value (step xs n)
chosen xs (refused r) = refused r

-- the step for a current
abbrev pub step_for : List ℕ → ℕ → ℕ → Answer ℕ
step_for xs amperes microohms = chosen xs (mv_across amperes microohms)
