-- Of no bytes nothing is left; a byte is taken in, and what is left of the sum is the check byte of the bytes passed and that one.
-- Assumes nothing.
use Rattle.std.proofs.Common.{ℕ, List, ◌≡◌, arith, rules, ◌<◌, ◌∷◌, [], ◌++◌, ◌∙◌, ap, refl, add-one, take, length, get_or}
use Rattle.std.specs.Int.Bits.{bit_xor}
use Rattle.check_byte.specs.Inside.{times_seven}
use lib.Seq.{take-suc}
use Rattle.check_byte.specs.CheckByte.{divide, number, check_byte}
use Rattle.check_byte.proofs.Leaves.{Leaves, known, more}
use Rattle.check_byte.proofs.check_byte.Goals as goal

-- the byte at i is taken in
taken : (m : List ℕ) (i crc r : ℕ) → get_or m i 0 < 256 → crc < 256 → crc ≡ check_byte (take i m) → r ≡ times_seven (bit_xor crc (get_or m i 0))
    → Leaves 10 (take i m ++ get_or m i 0 ∷ []) r
taken m i crc r h l e d = more 8 _ (omega arith) (omega arith) h (known l e) d

pub loop-byte-init : goal.loop-byte-init
unfolding check_byte divide number
loop-byte-init c = (search rules, refl)

pub left-crc-requires : goal.left-crc-requires
left-crc-requires c =
    let k = c.loop-byte in
    omega (arith, (taken c.args.«data».now k.byte-index _ _ (c.type_inv.«data» k.byte-index).fits k.invariant.0 k.invariant.1 c.more.ensures).small)

pub loop-byte-preserved : goal.loop-byte-preserved
loop-byte-preserved c =
    let m = c.args.«data».now in
    let k = c.loop-byte in
    let h : k.byte-index < length m = search rules in
    let t = taken m k.byte-index _ _ (c.type_inv.«data» k.byte-index).fits k.invariant.0 k.invariant.1 c.more.ensures in
    (search rules, c.left-crc.ensures ∙ t.left ∙ ap check_byte (rw (add-one, take-suc m k.byte-index 0)))
