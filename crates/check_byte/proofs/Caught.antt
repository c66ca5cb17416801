-- Something is left of each error within 32 bits. A burst of eight bits is itself what is left of it, but for the zeros after it, and of
-- two bits the distance decides.
-- Assumes nothing.
use mathlib.Core.Path.{◌≡◌, sym, ap, ap₂, ◌∙◌}
use mathlib.Core.Bool.{Bool, not}
use Prim.Native.Nat.{ℕ, suc, ◌+◌, ◌-◌, ◌*◌, ◌^◌, ◌<◌}
use native.Mathlib.Nat.{add_comm, one-mul, lt_of_not-le}
use native.Mathlib.Omega.{arith}
use lib.Dec.{T_not, eqb, eqb_refl}
use lib.Pow.{pow_mono, pow-lt, pow-add}
use lib.Bits.{bit_xor, xor_comm, xor_shifted}
use Rattle.check_byte.specs.CheckByte.{divisor, coefficient, line, divide}
use Rattle.check_byte.specs.Error.{Error, burst, two}
use Rattle.laws.proofs.Tests.{below}
use Rattle.check_byte.proofs.LongDivision.{divide_small, divide_byte, cancel}
use Rattle.check_byte.proofs.Xor.{xor_shift}

-- zeros after an error change nothing
shifted : (n i : ℕ) → n * 2 ^ i < 2 ^ 32 → divide 24 (n * 2 ^ i) ≡ 0 → divide 24 n ≡ 0
shifted n i h e = cancel i 24 n (ap (λ (k : ℕ). divide k (n * 2 ^ i)) (add_comm 24 i) ∙ divide_small i 24 (n * 2 ^ i) h ∙ e)

-- the lowest bit, and the one d + 1 above it
pair : ℕ → ℕ
pair d = bit_xor 1 (2 ^ suc d)

something : ℕ → Bool
something d = not (eqb (divide 24 (pair d)) 0)

pair_left : (d : ℕ) → d < 31 → divide 24 (pair d) ≡ 0 → ⊥
unfolding something pair divide line coefficient divisor
pair_left d h e = T_not (eqb (divide 24 (pair d)) 0) (below 31 something tt d h) (rw e (eqb_refl 0))

module _ (i j : ℕ) (h : i < j) where
  pair_shifted : bit_xor (2 ^ i) (2 ^ j) ≡ pair (j - suc i) * 2 ^ i
  unfolding pair
  pair_shifted =
      ap₂ bit_xor (sym (one-mul (2 ^ i))) (ap (◌^◌ 2) (omega arith) ∙ pow-add 2 (suc (j - suc i)) i)
      ∙ xor_shift i 1 (2 ^ suc (j - suc i))

  pair_sum : bit_xor (2 ^ i) (2 ^ j) ≡ 2 ^ j + 2 ^ i
  pair_sum = xor_comm (2 ^ i) (2 ^ j) ∙ rw one-mul at (xor_shifted 1 j (2 ^ i) (pow-lt h))

  pair_near : bit_xor (2 ^ i) (2 ^ j) < 2 ^ 32 → j < 32
  pair_near l = lt_of_not-le (λ g. omega (arith, pair_sum, pow_mono g))

pub caught : {e : ℕ} → Error e → e < 2 ^ 32 → divide 24 e ≡ 0 → ⊥
caught (burst b i p h) l z = let none : b ≡ 0 = sym (divide_byte 24 b h) ∙ shifted b i l z in omega arith
caught (two i j h) l z =
    pair_left (j - suc i) (omega (arith, pair_near i j h l))
    (shifted (pair (j - suc i)) i (rw (pair_shifted i j h) at l) (rw (pair_shifted i j h) at z))
