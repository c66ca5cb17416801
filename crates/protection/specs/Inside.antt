-- What private contracts cite: a line of the code's ladder of steps. Nobody has to believe it.
-- Assumes nothing.
use Rattle.std.specs.Prelude.{ℕ, suc, ◌≤◌, cond, List, [], ◌∷◌, map, eqb}
use Rattle.protection.specs.Scd as scd
use Rattle.protection.specs.Ocd as ocd
use Rattle.protection.specs.declared.scd.SCDThreshold.{SCDThreshold}
use Rattle.protection.specs.declared.ocd.OCDThreshold.{OCDThreshold}

-- a line of the ladder: the numbers that have one step
pub record Line : Type 0 where
  pub from : ℕ
  pub to : ℕ

-- the line of the step s over steps that rise: each line goes from the number after the last step up to its own, the first from n, the last to 255
abbrev pub line_of : ℕ → List ℕ → ℕ → Line
line_of n [] s = record { from = n; to = 255 }
line_of n (x ∷ []) s = record { from = n; to = 255 }
line_of n (x ∷ y ∷ steps) s = cond (eqb x s) (record { from = n; to = x }) (line_of (suc x) (y ∷ steps) s)

abbrev pub scd_line : SCDThreshold → Line
scd_line t = line_of 0 (map scd.mv_of scd.thresholds) (scd.mv_of t)

abbrev pub ocd_line : OCDThreshold → Line
ocd_line t = line_of 0 (map ocd.mv_of ocd.thresholds) (ocd.mv_of t)

abbrev pub On : Line → ℕ → Type 0
On line n = (line.from ≤ n) × (n ≤ line.to)
