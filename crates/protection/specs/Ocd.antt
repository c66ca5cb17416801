-- The OCD steps: the millivolts in each one's name, and all of them, lowest first.
-- Assumes nothing.
use Rattle.std.specs.Prelude.{ℕ, List, [], ◌∷◌}
use Rattle.protection.specs.Rows.{first_at}
use Rattle.protection.specs.declared.ocd.OCDThreshold.{OCDThreshold}
use Rattle.protection.specs.declared.ocd.OCDThreshold.TheVariants as S

abbrev pub mv_of : OCDThreshold → ℕ
mv_of S._8mV = 8
mv_of S._11mV = 11
mv_of S._14mV = 14
mv_of S._17mV = 17
mv_of S._19mV = 19
mv_of S._22mV = 22
mv_of S._25mV = 25
mv_of S._28mV = 28
mv_of S._31mV = 31
mv_of S._33mV = 33
mv_of S._36mV = 36
mv_of S._39mV = 39
mv_of S._42mV = 42
mv_of S._44mV = 44
mv_of S._47mV = 47
mv_of S._50mV = 50
mv_of S._56mV = 56
mv_of S._61mV = 61
mv_of S._67mV = 67
mv_of S._72mV = 72
mv_of S._78mV = 78
mv_of S._83mV = 83
mv_of S._89mV = 89
mv_of S._94mV = 94
mv_of S._100mV = 100

abbrev pub thresholds : List OCDThreshold
thresholds =
    S._8mV ∷
    S._11mV ∷
    S._14mV ∷
    S._17mV ∷
    S._19mV ∷
    S._22mV ∷
    S._25mV ∷
    S._28mV ∷
    S._31mV ∷
    S._33mV ∷
    S._36mV ∷
    S._39mV ∷
    S._42mV ∷
    S._44mV ∷
    S._47mV ∷
    S._50mV ∷
    S._56mV ∷
    S._61mV ∷
    S._67mV ∷
    S._72mV ∷
    S._78mV ∷
    S._83mV ∷
    S._89mV ∷
    S._94mV ∷
    S._100mV ∷
    []

-- the step with n in its name, or the lowest where none has
abbrev pub named : ℕ → OCDThreshold
named = first_at mv_of S._8mV thresholds
