-- The thermistor's bit is never seen: it is cleared before it is tested.
-- Assumes nothing.
use mathlib.Core.Path.{◌≡◌, ap, ◌∙◌}
use mathlib.Core.Bool.{false}
use Prim.Native.Nat.{ℕ, ◌/◌, ◌%◌, ◌^◌}
use lib.Bits.{and_shr, and_mod, and_zero_r}
use lib.Dec.{eqb}
use Rattle.bits.specs.Bits.{cleared, thermistor}
use Rattle.bits.proofs.OneBit.{holds_bit}

pub unseen : (byte : ℕ) → thermistor byte ≡ false
unseen byte =
    holds_bit 3 (cleared 0b0000_1000 byte)
    ∙ ap (λ (n : ℕ). eqb (n % 2) 1) (and_shr byte 247 3)
    ∙ ap (λ (n : ℕ). eqb n 1) (and_mod (byte / 2 ^ 3) 30 1 ∙ and_zero_r (byte / 2 ^ 3 % 2))
