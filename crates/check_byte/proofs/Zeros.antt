-- A read that delivers nothing counts as zeros. After its address byte, which is not zero, a zero byte and a zero check byte do not match;
-- a later zero byte and its zero check byte do.
-- Assumes nothing.
use mathlib.Core.Path.{◌≡◌, refl, ap, ◌∙◌}
use mathlib.Core.List.{[], ◌∷◌}
use Prim.Native.Nat.{ℕ, ◌<◌}
use native.Mathlib.Omega.{arith}
use Rattle.check_byte.specs.CheckByte.{divisor, coefficient, line, divide, number, check_byte}
use Rattle.check_byte.proofs.LongDivision.{cancel}

pub address_zero : (a : ℕ) → 0 < a → check_byte (a ∷ 0 ∷ []) ≡ 0 → ⊥
unfolding check_byte number divide
address_zero a h e =
    let none : a ≡ 0 = cancel 16 0 a (ap (divide 16) (omega arith) ∙ e) in
    omega arith

pub zero_alone : check_byte (0 ∷ []) ≡ 0
unfolding check_byte number divide line coefficient divisor
zero_alone = refl
