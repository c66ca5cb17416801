-- A read that delivers nothing counts as zeros, and is never right: its first check byte covers the address byte, which is odd.
-- Assumes nothing.
use mathlib.Core.Path.{◌≡◌, sym, ap, ◌∙◌}
use mathlib.Core.Bool.{Bool, false, ◌&&◌}
use mathlib.Core.List.{List, [], ◌∷◌}
use Prim.Native.Nat.{ℕ, zero, suc, ◌*◌, ◌≤◌}
use native.Mathlib.Omega.{arith}
use lib.ListN.{replicate}
use borrow.Author.Tests.{ne_eqb}
use Rattle.check_byte.proofs.Zeros.{address_zero}
use Rattle.frames.specs.Frames.{read_byte, right}

-- any frame whose first byte and its check byte are zero
pub zero_first : (address : ℕ) (rest : List ℕ) → right (read_byte address ∷ []) (0 ∷ 0 ∷ rest) ≡ false
unfolding right read_byte
zero_first address rest = ap (λ (t : Bool). t && right [] rest) (ne_eqb 0 _ (λ e. address_zero (read_byte address) (omega arith) (sym e)))

pub zeros : (address n : ℕ) → 1 ≤ n → right (read_byte address ∷ []) (replicate (2 * n) 0) ≡ false
zeros address zero h = absurd (omega arith)
zeros address (suc n) h =
    let two : 2 * suc n ≡ suc (suc (2 * n)) = omega arith in
    ap (λ (k : ℕ). right (read_byte address ∷ []) (replicate k 0)) two ∙ zero_first address (replicate (2 * n) 0)
