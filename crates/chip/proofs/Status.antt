-- A byte written to status, register 00: it clears the bits that are 1 in it, and keeps the others.
-- Assumes nothing.
use mathlib.Core.Path.{◌≡◌, sym, ap, ◌∙◌}
use mathlib.Core.List.{List}
use Prim.Native.Nat.{ℕ, zero, suc, ◌-◌, ◌/◌, ◌%◌, ◌^◌, ◌<◌}
use native.Mathlib.Nat.{div-div-eq-div-mul, pow-succ'}
use native.Mathlib.Omega.{arith}
use lib.Bits.{bit_and, and_step, and_le_l}
use lib.ListN.{length, get_or}
use lib.Seq.{get_or-set_same}
use Rattle.chip.specs.Chip.{arrives}

-- bit k of n
abbrev pub bit : ℕ → ℕ → ℕ
bit k n = n / 2 ^ k % 2

-- the bits above the lowest are those of the half
bit_half : (k n : ℕ) → bit (suc k) n ≡ bit k (n / 2)
bit_half k n = ap (λ (m : ℕ). n / m % 2) (pow-succ' 2 k) ∙ ap (λ (m : ℕ). m % 2) (sym (div-div-eq-div-mul n 2 (2 ^ k)))

module _ (a b : ℕ) where
  half : (a - bit_and a b) / 2 ≡ a / 2 - bit_and (a / 2) (b / 2)
  half = omega (arith, and_step a b, and_le_l (a / 2) (b / 2))

cleared_bit : (k a b : ℕ) → bit k b ≡ 1 → bit k (a - bit_and a b) ≡ 0
cleared_bit zero a b h = omega (arith, and_step a b, and_le_l (a / 2) (b / 2))
cleared_bit (suc k) a b h = bit_half k (a - bit_and a b) ∙ ap (bit k) (half a b) ∙ cleared_bit k (a / 2) (b / 2) (sym (bit_half k b) ∙ h)

kept_bit : (k a b : ℕ) → bit k b ≡ 0 → bit k (a - bit_and a b) ≡ bit k a
kept_bit zero a b h = omega (arith, and_step a b, and_le_l (a / 2) (b / 2))
kept_bit (suc k) a b h =
    bit_half k (a - bit_and a b)
    ∙ ap (bit k) (half a b)
    ∙ kept_bit k (a / 2) (b / 2) (sym (bit_half k b) ∙ h)
    ∙ sym (bit_half k a)

module _ (k x : ℕ) (regs : List ℕ) (there : 0 < length regs) where
  stored : get_or (arrives 0 x regs) 0 0 ≡ get_or regs 0 0 - bit_and (get_or regs 0 0) x
  unfolding arrives
  stored = get_or-set_same regs 0 _ 0 there

  pub status_cleared : bit k x ≡ 1 → bit k (get_or (arrives 0 x regs) 0 0) ≡ 0
  status_cleared h = ap (bit k) stored ∙ cleared_bit k (get_or regs 0 0) x h

  pub status_kept : bit k x ≡ 0 → bit k (get_or (arrives 0 x regs) 0 0) ≡ bit k (get_or regs 0 0)
  status_kept h = ap (bit k) stored ∙ kept_bit k (get_or regs 0 0) x h
