-- What the check byte is for: within up to three bytes and their check byte an error of one or two bits, or of a burst of up to eight, is
-- noticed. m is sent with its check byte, m' and c arrive, and they differ by the error e; then c is not the check byte of m'.
-- Assumes nothing.
use mathlib.Core.Path.{◌≡◌, refl, sym, ap, ap₂, ◌∙◌, subst}
use mathlib.Core.List.{List, [], ◌∷◌, ◌++◌}
use Prim.Native.Nat.{ℕ, ◌+◌, ◌-◌, ◌*◌, ◌^◌, ◌≤◌, ◌<◌}
use native.Mathlib.Nat.{lt_of_lt_of_le}
use native.Mathlib.Omega.{arith}
use lib.ListN.{length}
use lib.Pow.{pow_mono}
use lib.Bits.{bit_xor, xor_lt}
use Rattle.check_byte.specs.CheckByte.{divide, number, check_byte, Bytes}
use Rattle.check_byte.specs.Error.{Error}
use Rattle.check_byte.proofs.Caught.{caught}
use Rattle.check_byte.proofs.LongDivision.{divide_xor, divide_small}
use Rattle.check_byte.proofs.Message.{matched, word_lt, bound}
use Rattle.check_byte.proofs.Xor.{xor_cancel}

pub noticed : (m m' : List ℕ) (c e : ℕ) → length m ≤ 3 → length m' ≡ length m → Bytes m → Bytes m' → c < 2 ^ 8 → Error e
    → number (m' ++ c ∷ []) ≡ bit_xor (number (m ++ check_byte m ∷ [])) e → check_byte m' ≡ c → ⊥
noticed m m' c e l k hm hm' hc r w q =
    caught r (lt_of_lt_of_le small (pow_mono {j = 32} (omega arith)))
    (ap (λ (x : ℕ). divide x e) (omega arith) ∙ divide_small (24 - n) n e small ∙ left)
  where
    n : ℕ
    n = 8 * length m

    sent : ℕ
    sent = number (m ++ check_byte m ∷ [])

    got : ℕ
    got = number (m' ++ c ∷ [])

    differs : bit_xor sent got ≡ e
    differs = ap (bit_xor sent) w ∙ xor_cancel sent e

    left : divide n e ≡ 0
    left =
        ap (divide n) (sym differs)
        ∙ divide_xor n sent got
        ∙ ap₂ bit_xor (matched m (check_byte m) (bound m hm) refl) (ap (λ (x : ℕ). divide (8 * x) got) (sym k) ∙ matched m' c hc q)

    small : e < 2 ^ (n + 8)
    small =
        subst (λ (x : ℕ). x < 2 ^ (n + 8)) differs
        (xor_lt (n + 8) sent got (word_lt m (check_byte m) hm (bound m hm)) (rw k at (word_lt m' c hm' hc)))
