-- The Rust's choice, which answers the top step above the top and else walks the steps in their order to the first whose millivolts are n or
-- more, is the step of the published lists: for SCD and for OCD, at every n that a byte holds. Below the least step the Rust answers that one without
-- a walk; the walk's first test gives the same.
-- Assumes nothing.
use mathlib.Core.Path.{◌≡◌}
use mathlib.Core.Bool.{cond}
use mathlib.Core.List.{List, [], ◌∷◌, ◌++◌}
use Prim.Native.Nat.{ℕ, ◌<◌}
use lib.Dec.{leb, ltb}
use Rattle.laws.proofs.Tests.{same_below}
use Rattle.protection.specs.Steps.{scd_lower, scd_upper, ocd_lower, ocd_upper, step}
use Rattle.protection.specs.Scd as scd
use Rattle.protection.specs.Ocd as ocd

module _ {A : Type 0} (mv_of : A → ℕ) (top : A) (n : ℕ) where
  abbrev pub walk : List A → A
  walk [] = top
  walk (t ∷ ts) = cond (leb n (mv_of t)) t (walk ts)

  abbrev pub choice : List A → A
  choice ts = cond (ltb (mv_of top) n) top (walk ts)

pub scd_step_lem : (n : ℕ) → n < 256 → scd.mv_of (choice scd.mv_of (scd.named 200) n scd.thresholds) ≡ step (scd_lower ++ scd_upper) n
unfolding step
scd_step_lem = same_below 256 (λ n. scd.mv_of (choice scd.mv_of (scd.named 200) n scd.thresholds)) (step (scd_lower ++ scd_upper)) tt

pub ocd_step_lem : (n : ℕ) → n < 256 → ocd.mv_of (choice ocd.mv_of (ocd.named 100) n ocd.thresholds) ≡ step (ocd_lower ++ ocd_upper) n
unfolding step
ocd_step_lem = same_below 256 (λ n. ocd.mv_of (choice ocd.mv_of (ocd.named 100) n ocd.thresholds)) (step (ocd_lower ++ ocd_upper)) tt
