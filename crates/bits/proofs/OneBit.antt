-- A mask of one bit tests just that bit, as the status flags are tested.
-- Assumes nothing.
use mathlib.Core.Path.{◌≡◌, sym, ap, ◌∙◌}
use mathlib.Core.Bool.{not}
use Prim.Native.Nat.{ℕ, zero, suc, ◌+◌, ◌-◌, ◌*◌, ◌/◌, ◌%◌, ◌^◌, ◌<◌}
use native.Mathlib.Nat.{mod-lt, pow-suc, zero-lt-suc, zero-mul, one-mul}
use native.Mathlib.Omega.{arith}
use lib.Bits.{and_high}
use lib.Dec.{eqb}
use lib.Pow.{pow_pos}
use borrow.Author.Tests.{ne_eqb}
use Rattle.units.specs.Flags.{bit}
use Rattle.bits.specs.Bits.{holds}

by_digit : (x p : ℕ) → x < 2 → 0 < p → not (eqb (x * p) 0) ≡ eqb x 1
by_digit zero p h some = rw (zero-mul p)
by_digit (suc zero) p h some = rw (one-mul p, ne_eqb p 0 (λ z. omega arith))
by_digit (suc (suc x)) p h some = absurd (omega arith)

pub holds_bit : (k byte : ℕ) → holds (2 ^ k) byte ≡ bit k byte
holds_bit k byte =
    let next : 1 + k ≡ suc k = omega arith in
    let one : 2 ^ (1 + k) - 2 ^ k ≡ 2 ^ k = omega (arith, ap (λ (n : ℕ). 2 ^ n) next, pow-suc 2 k) in
    ap (λ (m : ℕ). holds m byte) (sym one)
    ∙ ap (λ (n : ℕ). not (eqb n 0)) (and_high byte 1 k)
    ∙ by_digit (byte / 2 ^ k % 2) (2 ^ k) (mod-lt (byte / 2 ^ k) (zero-lt-suc 1)) (pow_pos k)
