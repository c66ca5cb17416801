-- The numbers that the test of the two asked voltages refuses with: 8 where the overvoltage is outside its limits, or else 7
-- where the undervoltage is.
-- Assumes nothing.
use mathlib.Core.Path.{◌≡◌, refl}
use mathlib.Core.Bool.{Bool, true, false, cond, not, ◌&&◌}
use mathlib.Core.List.{List}
use Prim.Native.Nat.{ℕ}
use lib.Dec.{eqb}
use lib.IntN.{ℤ}
use Rattle.refusals.specs.Refusal.{Answer, value, refused, no}
use Rattle.plan.specs.Exactly.{is_no}
use Rattle.plan.specs.Order.{◌and_then◌}
use Rattle.plan.specs.Trips.{ov_limits, uv_limits, figures, obtainable, obtainable_or, within_for}

abbrev test : Bool → ℕ → List ℤ → Answer (Unit {0})
test t n figures = cond t (value tt) (refused (no n figures))

abbrev both : Bool → Bool → List ℤ → List ℤ → Answer (Unit {0})
both a b f g = test a 8 f and_then λ _. test b 7 g

no_8 : (a b : Bool) (f g : List ℤ) → is_no 8 (both a b f g) ≡ not a
unfolding ◌and_then◌
no_8 true true f g = refl
no_8 true false f g = refl
no_8 false b f g = refl

no_7 : (a b : Bool) (f g : List ℤ) → is_no 7 (both a b f g) ≡ a && not b
unfolding ◌and_then◌
no_7 true true f g = refl
no_7 true false f g = refl
no_7 false b f g = refl

no_other : (n : ℕ) → eqb 8 n ≡ false → eqb 7 n ≡ false → (a b : Bool) (f g : List ℤ) → is_no n (both a b f g) ≡ false
unfolding ◌and_then◌
no_other n not-8 not-7 true true f g = refl
no_other n not-8 not-7 true false f g = not-7
no_other n not-8 not-7 false b f g = not-8

module _ (gain : ℕ) (offset ov uv : ℤ) where
  abbrev a : Bool
  a = obtainable ov (ov_limits gain offset)

  abbrev b : Bool
  b = obtainable uv (uv_limits gain offset)

  pub within_8 : is_no 8 (within_for gain offset ov uv) ≡ not a
  unfolding within_for obtainable_or
  within_8 = no_8 a b (figures (ov_limits gain offset)) (figures (uv_limits gain offset))

  pub within_7 : is_no 7 (within_for gain offset ov uv) ≡ a && not b
  unfolding within_for obtainable_or
  within_7 = no_7 a b (figures (ov_limits gain offset)) (figures (uv_limits gain offset))

  pub within_other : (n : ℕ) → eqb 8 n ≡ false → eqb 7 n ≡ false → is_no n (within_for gain offset ov uv) ≡ false
  unfolding within_for obtainable_or
  within_other n not-8 not-7 = no_other n not-8 not-7 a b (figures (ov_limits gain offset)) (figures (uv_limits gain offset))
