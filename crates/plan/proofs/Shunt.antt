-- What the test of a shunt says.
-- Assumes nothing.
use mathlib.Core.Path.{◌≡◌, ap}
use mathlib.Core.Bool.{Bool, true, false, true≢false}
use mathlib.Core.List.{[]}
use Prim.Native.Nat.{ℕ, zero, suc, ◌<◌}
use native.Mathlib.Omega.{arith}
use Rattle.refusals.specs.Refusal.{value, refused, no, refused_if}
use Rattle.plan.specs.Steps.{bad_shunt, shunt_for}

pub bad : (shunt : ℕ) → bad_shunt shunt ≡ true → shunt_for shunt ≡ refused (no 12 [])
unfolding shunt_for
bad shunt e = ap (λ (t : Bool). refused_if t 12 (value shunt)) e

pub good : (shunt : ℕ) → bad_shunt shunt ≡ false → shunt_for shunt ≡ value shunt
unfolding shunt_for
good shunt e = ap (λ (t : Bool). refused_if t 12 (value shunt)) e

pub positive : (shunt : ℕ) → bad_shunt shunt ≡ false → 0 < shunt
positive zero e = absurd (true≢false e)
positive (suc n) e = omega arith
