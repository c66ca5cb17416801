-- The code's test by a shift is the rule about inputs that the device has not.
-- Assumes nothing.
use mathlib.Core.Path.{◌≡◌, refl, sym, ap, ◌∙◌}
use mathlib.Core.Bool.{Bool, true, false, not}
use Prim.Native.Nat.{ℕ, ◌+◌, ◌-◌, ◌/◌, ◌^◌, ◌≤◌, ◌<◌}
use native.Mathlib.Omega.{arith}
use lib.Dec.{eqb}
use lib.Pow.{shr_lt}
use borrow.Author.Tests.{eqb-true, eqb-false}
use Rattle.units.specs.Flags.{bit}
use Rattle.cellbal.specs.Rules.{not_on_device}
use Rattle.cellbal.proofs.Digits.{bit_above, none_above, below_length, some_bit}
use Rattle.cellbal.proofs.Rules.{off_device, not_on_device_is}

-- a test that can't hold
fails : (t : Bool) → (t ≡ true → ⊥) → t ≡ false
fails true never = absurd (never refl)
fails false never = refl

module _ (x set : ℕ) (two : set < 2 ^ 16) where
  -- nothing from bit x on
  none_over : set / 2 ^ x ≡ 0 → not_on_device x set ≡ false
  none_over e =
      fails (not_on_device x set) λ t.
      let off = off_device set x t in
      none_above x (off.input - 1) set e (omega (arith, off.over)) off.on

  -- the device has all that two bytes name
  pub all_named : 16 ≤ x → not_on_device x set ≡ false
  all_named h =
      fails (not_on_device x set) λ t.
      let off = off_device set x t in
      omega (arith, off.over, below_length 16 (off.input - 1) set two off.on)

  one_over : x ≤ 16 → 0 < set / 2 ^ x → not_on_device x set ≡ true
  one_over h e =
      let all : 16 ≡ 16 - x + x = omega arith in
      let up = some_bit (16 - x) (set / 2 ^ x) (shr_lt (16 - x) x (rw (← all) two)) e in
      let at : x + up.0 + 1 - 1 ≡ x + up.0 = omega arith in
      not_on_device_is set two x (record {
        input = x + up.0 + 1;
        over = omega arith;
        on = ap (λ (k : ℕ). bit k set) at ∙ sym (bit_above x up.0 set) ∙ up.2;
      })

  pub by_shift : x ≤ 16 → not (eqb (set / 2 ^ x) 0) ≡ not_on_device x set
  by_shift h = by (eqb (set / 2 ^ x) 0) refl
    where
      by : (t : Bool) → eqb (set / 2 ^ x) 0 ≡ t → not t ≡ not_on_device x set
      by true e = sym (none_over (eqb-true (set / 2 ^ x) 0 e))
      by false e = sym (one_over h (omega (arith, eqb-false (set / 2 ^ x) 0 e)))
