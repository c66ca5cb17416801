-- The check byte of a message of bytes is the remainder of the message times x^8, and there is no other.
-- Assumes nothing.
use mathlib.Core.Path.{◌≡◌, sym, ap, ap₂, ◌∙◌}
use mathlib.Core.List.{List}
use Prim.Native.Nat.{ℕ, zero, suc, ◌+◌, ◌*◌, ◌^◌, ◌≤◌, ◌<◌}
use native.Mathlib.Nat.{lt_of_lt_of_le}
use native.Mathlib.Omega.{arith}
use lib.ListN.{length}
use lib.Pow.{pow_mono}
use lib.Bits.{bit_xor}
use Rattle.check_byte.specs.CheckByte.{divide, number, check_byte, Bytes}
use Rattle.check_byte.specs.Division.{times_divisor, Remainder}
use Rattle.check_byte.proofs.LongDivision.{divide_xor, divide_byte}
use Rattle.check_byte.proofs.Message.{bound}
use Rattle.check_byte.proofs.Product.{quotient, divided, exact}

pub remainder : (m : List ℕ) → Bytes m → Remainder (number m * 2 ^ 8) (check_byte m)
unfolding check_byte
remainder m h =
    let n = number m * 2 ^ 8 in
    let k = 8 * length m in
    record { quotient = quotient k n; sum = divided k n; small = bound m h }

pub only : {n r s : ℕ} → Remainder n r → Remainder n s → r ≡ s
only {n} p q = sym (left p (p.quotient + q.quotient) (omega arith)) ∙ left q (p.quotient + q.quotient) (omega arith)
  where
    below_power : (i : ℕ) → i < 2 ^ i
    below_power zero = omega arith
    below_power (suc i) = omega (arith, below_power i)

    left : {r : ℕ} (p : Remainder n r) (k : ℕ) → p.quotient ≤ k → divide k n ≡ r
    left {r} p k h =
        ap (divide k) p.sum
        ∙ divide_xor k (times_divisor p.quotient) r
        ∙ ap₂ bit_xor (exact k p.quotient (lt_of_lt_of_le (below_power p.quotient) (pow_mono h))) (divide_byte k r p.small)
