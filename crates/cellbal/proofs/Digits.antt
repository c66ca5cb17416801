-- The bits of a number: of a quotient they are the number's upper ones, past its length there are none, and a number that is not 0 has one.
-- Assumes nothing.
use mathlib.Core.Path.{◌≡◌, refl, sym, ap, ◌∙◌}
use mathlib.Core.Bool.{Bool, true, false}
use Prim.Native.Nat.{ℕ, zero, suc, ◌+◌, ◌-◌, ◌/◌, ◌%◌, ◌^◌, ◌≤◌, ◌<◌}
use native.Mathlib.Nat.{pow-suc}
use native.Mathlib.Omega.{arith}
use lib.Dec.{eqb, leb}
use lib.Pow.{shr-shr, shr_lt, shr_le, field, mod-mod-pow}
use borrow.Author.Tests.{eq-eqb, eqb-true, eqb-false, leb-true, leb-false}
use Rattle.units.specs.Flags.{bit}

pub bit_above : (k j n : ℕ) → bit j (n / 2 ^ k) ≡ bit (k + j) n
bit_above k j n = ap (λ (m : ℕ). eqb (m % 2) 1) (shr-shr n k j)

-- of a remainder they are the number's lower ones
pub bit_below : (j k n : ℕ) → n % 2 ^ (j + 1 + k) / 2 ^ k % 2 ≡ n / 2 ^ k % 2
bit_below j k n = ap (λ (m : ℕ). m % 2) (field n (j + 1) k) ∙ mod-mod-pow (n / 2 ^ k) j 1

-- what is 0 above a bit has no bit there
pub none_above : (k j n : ℕ) → n / 2 ^ k ≡ 0 → k ≤ j → bit j n ≡ true → ⊥
none_above k j n e h b =
    let up : k + (j - k) ≡ j = omega arith in
    omega (
      arith,
      shr_le (n / 2 ^ k) (j - k),
      shr-shr n k (j - k) ∙ ap (λ (m : ℕ). n / 2 ^ m) up,
      eqb-true (n / 2 ^ j % 2) 1 b,
    )

-- a number of k bits has none from bit k on
pub below_length : (k j n : ℕ) → n < 2 ^ k → bit j n ≡ true → j < k
below_length k j n few b = by (leb k j) refl
  where
    none : n < 2 ^ (0 + k) → n / 2 ^ k ≡ 0
    none h = omega (arith, shr_lt 0 k h)

    by : (t : Bool) → leb k j ≡ t → j < k
    by true e =
        let same : k ≡ 0 + k = omega arith in
        absurd (none_above k j n (none (rw (← same) few)) (leb-true k j e) b)
    by false e = leb-false k j e

-- a number that is not 0 has a bit below its length: the lowest, or one of its half
abbrev SomeBit : ℕ → ℕ → Type 0
SomeBit k n = (j : ℕ) × (j < k) × (bit j n ≡ true)

by_lowest : (k n : ℕ) (t : Bool) → eqb (n % 2) 1 ≡ t → (eqb (n % 2) 1 ≡ false → SomeBit k (n / 2)) → SomeBit (suc k) n
by_lowest k n true e half =
    let odd : n / 1 % 2 ≡ 1 = omega (arith, eqb-true (n % 2) 1 e) in
    (0, omega arith, eq-eqb (n / 1 % 2) 1 odd)
by_lowest k n false e half =
    let above = half e in
    (1 + above.0, omega (arith, above.1), sym (bit_above 1 above.0 n) ∙ above.2)

pub some_bit : (k n : ℕ) → n < 2 ^ k → 0 < n → SomeBit k n
some_bit zero n few h = absurd (omega arith)
some_bit (suc k) n few h =
    by_lowest k n (eqb (n % 2) 1) refl
    (λ even. some_bit k (n / 2) (omega (arith, pow-suc 2 k)) (omega (arith, eqb-false (n % 2) 1 even)))
