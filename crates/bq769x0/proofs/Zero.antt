-- A test of a signed byte against 0 looks at its bits.
-- Assumes nothing.
use mathlib.Core.Path.{◌≡◌, refl}
use Prim.Native.Nat.{ℕ, suc, ◌-◌, ◌^◌, ◌<◌}
use native.Mathlib.Omega.{arith}
use lib.IntN.{ℤ, pos, negsuc}
use lib.Signed.{mag}
use lib.Dec.{eqb}
use borrow.Author.Tests.{ne_eqb}
use mir.Syntax.{w8}
use mir.Val.{of_z, hbits}
use Rattle.bq769x0.specs.Record.{is_zero}

bits : (n : ℕ) → n < 128 → 256 - suc n ≡ 0 → ⊥
bits n h q = omega arith

pub zero_test : (z : ℤ) → mag z < 2 ^ hbits w8 → eqb (of_z w8 z) 0 ≡ is_zero z
zero_test (pos n) h = refl
zero_test (negsuc n) h = ne_eqb (256 - suc n) 0 (bits n h)
