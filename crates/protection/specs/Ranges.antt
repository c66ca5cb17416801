-- The two ranges: which of them has a step, and the step's code there.
-- Assumes nothing.
use Rattle.std.specs.Prelude.{ℕ, suc, ◌*◌, Bool, true, false, cond, ◌&&◌, List, [], ◌∷◌, eqb}
use Rattle.refusals.specs.Refusal.{Answer, value, refused, no}
use Rattle.protection.specs.declared.range.Codes.{Codes}
use Rattle.protection.specs.declared.range.OCDSCDRange.{OCDSCDRange}
use Rattle.protection.specs.declared.range.OCDSCDRange.TheVariants as R

-- bit 7 of PROTECT1
abbrev pub range_bits : OCDSCDRange → Answer ℕ
range_bits R.Lower = value (0 * 128)
range_bits R.Upper = value (1 * 128)
range_bits R.Unknown = refused (no 20 [])

abbrev pub is_in : ℕ → List ℕ → Bool
is_in n [] = false
is_in n (x ∷ xs) = cond (eqb x n) true (is_in n xs)

-- a step's range, by whether the lower list has it and whether the upper has it: Unknown where both have, so that either will do
abbrev pub range_by : Bool → Bool → OCDSCDRange
range_by true true = R.Unknown
range_by true false = R.Lower
range_by false true = R.Upper
range_by false false = R.Unknown

unfoldable pub range_for : List ℕ → List ℕ → ℕ → OCDSCDRange
range_for lower upper n = range_by (is_in n lower) (is_in n upper)

-- n's place in xs, whose first has the place `at`, or 0 where xs has no n
abbrev pub place_from : ℕ → List ℕ → ℕ → ℕ
place_from at [] n = 0
place_from at (x ∷ xs) n = cond (eqb x n) at (place_from (suc at) xs n)

-- n's code in a range: its place in the range's list, counted from 0, or 0 where the list has no n
abbrev pub code_in : List ℕ → ℕ → ℕ
code_in = place_from 0

-- a step's codes in the lower range and in the upper one
abbrev pub codes_for : List ℕ → List ℕ → ℕ → Codes
codes_for lower upper n = record { 0 = code_in lower n; 1 = code_in upper n }

-- the code for a range, of a step's two
abbrev pub in_range : OCDSCDRange → ℕ → ℕ → Answer ℕ
in_range R.Lower lower upper = value lower
in_range R.Upper lower upper = value upper
in_range R.Unknown lower upper = refused (no 20 [])

unfoldable pub code_for : List ℕ → List ℕ → OCDSCDRange → ℕ → Answer ℕ
code_for lower upper range n = in_range range (code_in lower n) (code_in upper n)

-- whether a step of this range is in the lower list, and in the upper
abbrev pub has_lower : OCDSCDRange → Bool
has_lower R.Lower = true
has_lower R.Upper = false
has_lower R.Unknown = true

abbrev pub has_upper : OCDSCDRange → Bool
has_upper R.Lower = false
has_upper R.Upper = true
has_upper R.Unknown = true

-- the range for two steps: the lower where both are in it, or else the upper where both are, or else 6
abbrev pub for_both : OCDSCDRange → OCDSCDRange → Answer OCDSCDRange
for_both scd ocd =
    cond (has_lower scd && has_lower ocd) (value R.Lower) (cond (has_upper scd && has_upper ocd) (value R.Upper) (refused (no 6 [])))
