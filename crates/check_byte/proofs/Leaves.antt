-- What the code has after some bytes of a message: a number of k bits, at most fourteen, that leaves the check byte of those bytes. Six
-- coefficients of a quotient are enough for it.
-- Assumes nothing.
use mathlib.Core.Path.{◌≡◌, refl, sym, ap, ap₂, ◌∙◌}
use mathlib.Core.List.{List, [], ◌∷◌, ◌++◌}
use Prim.Native.Nat.{ℕ, ◌+◌, ◌*◌, ◌/◌, ◌%◌, ◌^◌, ◌≤◌, ◌<◌}
use native.Mathlib.Nat.{mod-lt, mod-eq_of_lt, lt_of_lt_of_le}
use native.Mathlib.Omega.{arith}
use lib.Pow.{pow_pos, pow_mono, shr_lt, split}
use lib.Bits.{bit_xor, bit_and, xor_lt, xor_comm, xor_mod, xor_shifted, and_mask}
use Rattle.check_byte.specs.CheckByte.{divide, number, check_byte}
use Rattle.check_byte.specs.Inside.{times_seven}
use Rattle.check_byte.proofs.LongDivision.{divide_xor, divide_small, divide_byte, divide_on}
use Rattle.check_byte.proofs.Product.{seven_lt, fold}
use Rattle.check_byte.proofs.Message.{further, single}

pub record Leaves (k : ℕ) (m : List ℕ) (u : ℕ) : Type 0 where
  pub small : u < 2 ^ k
  pub left : divide 6 u ≡ check_byte m

-- the check byte itself, as it stands before each byte of the loop
pub known : {m : List ℕ} {crc : ℕ} → crc < 2 ^ 8 → crc ≡ check_byte m → Leaves 8 m crc
known {m} {crc} h e = record { small = h; left = divide_byte 6 crc h ∙ e }

pub none : Leaves 8 [] 0
unfolding check_byte number divide
none = known (omega arith) refl

-- one byte more
seven_on : (n : ℕ) → n < 2 ^ 12 → divide 6 (times_seven n) ≡ check_byte (divide 6 n ∷ [])
seven_on n h =
    sym (divide_small 8 6 (times_seven n) (seven_lt 12 n h))
    ∙ sym (fold 14 n (omega arith))
    ∙ divide_on 6 8 n
    ∙ sym (single (divide 6 n))

pub more : (k : ℕ) {m : List ℕ} {u r : ℕ} (b : ℕ) → 8 ≤ k → k ≤ 12 → b < 2 ^ 8 → Leaves k m u → r ≡ times_seven (bit_xor u b)
    → Leaves (k + 2) (m ++ b ∷ []) r
more k {m} {u} b l g h s e =
    let n = bit_xor u b in
    let hn : n < 2 ^ k = xor_lt k u b s.small (lt_of_lt_of_le h (pow_mono l)) in
    record {
      small = rw e (seven_lt k n hn);
      left =
          ap (divide 6) e
          ∙ seven_on n (lt_of_lt_of_le hn (pow_mono g))
          ∙ ap (λ (x : ℕ). check_byte (x ∷ [])) (divide_xor 6 u b ∙ ap₂ bit_xor s.left (divide_byte 6 b h))
          ∙ sym (further m b h);
    }

-- after one, two and three bytes from the start
pub one : {a r : ℕ} → r ≡ times_seven a → a < 2 ^ 8 → Leaves 10 (a ∷ []) r
one e h = more 8 _ (omega arith) (omega arith) h none e

pub two : {a b r s : ℕ} → r ≡ times_seven a → s ≡ times_seven (bit_xor r b) → a < 2 ^ 8 → b < 2 ^ 8 → Leaves 12 (a ∷ b ∷ []) s
two e f ha hb = more 10 _ (omega arith) (omega arith) hb (one e ha) f

pub three : {a b c r s t : ℕ} → r ≡ times_seven a → s ≡ times_seven (bit_xor r b) → t ≡ times_seven (bit_xor s c)
    → a < 2 ^ 8 → b < 2 ^ 8 → c < 2 ^ 8 → Leaves 14 (a ∷ b ∷ c ∷ []) t
three e f g ha hb hc = more 12 _ (omega arith) (omega arith) hc (two e f ha hb) g

-- the remainder of a number of fourteen bits
pub cut : (u : ℕ) → u < 2 ^ 14 → bit_and (bit_xor u (times_seven (u / 2 ^ 8))) 255 ≡ divide 6 u
cut u h =
    let hi = u / 2 ^ 8 in
    let lo = u % 2 ^ 8 in
    let hh : hi < 2 ^ 6 = shr_lt 6 8 h in
    let hl : lo < 2 ^ 8 = mod-lt u (pow_pos 8) in
    and_mask (bit_xor u (times_seven hi)) 8
    ∙ xor_mod u (times_seven hi) 8
    ∙ ap (bit_xor lo) (mod-eq_of_lt (seven_lt 6 hi hh))
    ∙ xor_comm lo (times_seven hi)
    ∙ sym
    (ap (divide 6) (sym (split u 8) ∙ sym (xor_shifted hi 8 lo hl))
    ∙ divide_xor 6 (hi * 2 ^ 8) lo
    ∙ ap₂ bit_xor (fold 6 hi hh ∙ divide_byte 6 (times_seven hi) (seven_lt 6 hi hh)) (divide_byte 6 lo hl))
