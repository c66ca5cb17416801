-- The SCD steps: the millivolts in each one's name, and all of them, lowest first.
-- Assumes nothing.
use Rattle.std.specs.Prelude.{ℕ, List, [], ◌∷◌}
use Rattle.protection.specs.Rows.{first_at}
use Rattle.protection.specs.declared.scd.SCDThreshold.{SCDThreshold}
use Rattle.protection.specs.declared.scd.SCDThreshold.TheVariants as S

abbrev pub mv_of : SCDThreshold → ℕ
mv_of S._22mV = 22
mv_of S._33mV = 33
mv_of S._44mV = 44
mv_of S._56mV = 56
mv_of S._67mV = 67
mv_of S._78mV = 78
mv_of S._89mV = 89
mv_of S._100mV = 100
mv_of S._111mV = 111
mv_of S._133mV = 133
mv_of S._155mV = 155
mv_of S._178mV = 178
mv_of S._200mV = 200

abbrev pub thresholds : List SCDThreshold
thresholds =
    S._22mV ∷
    S._33mV ∷
    S._44mV ∷
    S._56mV ∷
    S._67mV ∷
    S._78mV ∷
    S._89mV ∷
    S._100mV ∷
    S._111mV ∷
    S._133mV ∷
    S._155mV ∷
    S._178mV ∷
    S._200mV ∷
    []

-- the step with n in its name, or the lowest where none has
abbrev pub named : ℕ → SCDThreshold
named = first_at mv_of S._22mV thresholds
