-- The least and the greatest that a formula can give: what is known of its parts, carried through sum, product and quotient.
-- Assumes nothing.
use Rattle.std.proofs.Common.{◌≡◌, ℕ, zero, suc, ◌+◌, ◌*◌, ◌/◌, ◌<◌, ◌≤◌, Bool, true, false, ltb, ℤ, pos, negsuc, ◌+ℤ◌, ◌*ℤ◌, neg_ℤ, ◌≤ℤ◌, refl, le_trans, le_refl, mul-le-mul, le-div_iff_mul-le, div-mul-le_self, arith, le→leb, ltb-false, ltb-true}
use mathlib.Core.Path.{subst⁻¹}
use lib.IntN.{+ℤ_comm}
use lib.Signed.{mag, le_z_yes}
use Rattle.numbers.specs.Numbers.{◌÷◌}
use Rattle.numbers.proofs.Signed.{below, above}

-- from -low to high
abbrev pub Between : ℕ → ℕ → ℤ → Type 0
Between low high (pos n) = n ≤ high
Between low high (negsuc n) = suc n ≤ low

of_neg : (low high n : ℕ) → n ≤ low → Between low high (neg_ℤ (pos n))
of_neg low high zero h = omega arith
of_neg low high (suc n) h = h

pub of_sum : {up : ℕ} (most low high : ℕ) (z : ℤ) → up ≤ most → Between low high z → Between low (most + high) (pos up +ℤ z)
of_sum most low high (pos n) few h = omega arith
of_sum {up} most low high (negsuc n) few h = by_test (ltb up (suc n)) refl
  where
    by_test : (t : Bool) → ltb up (suc n) ≡ t → Between low (most + high) (pos up +ℤ negsuc n)
    by_test true e =
        let less : up < suc n = ltb-true up (suc n) e in
        subst⁻¹ (Between low (most + high)) (below up (suc n) less) (omega arith)
    by_test false e =
        let more : suc n ≤ up = ltb-false up (suc n) e in
        subst⁻¹ (Between low (most + high)) (above up (suc n) more) (omega arith)

pub wider : {low high : ℕ} (least most : ℕ) (z : ℤ) → low ≤ least → high ≤ most → Between low high z → Between least most z
wider least most (pos n) l h b = le_trans b h
wider least most (negsuc n) l h b = le_trans b l

-- of two numbers with a sign
pub of_add : (low low' high high' : ℕ) (y z : ℤ) → Between low high y → Between low' high' z → Between (low + low') (high + high') (y +ℤ z)
of_add low low' high high' (pos m) (pos n) h k = omega arith
of_add low low' high high' (pos m) (negsuc n) h k =
    wider (low + low') (high + high') (pos m +ℤ negsuc n) (omega arith) (omega arith) (of_sum high low' high' (negsuc n) h k)
of_add low low' high high' (negsuc m) (pos n) h k =
    subst⁻¹ (Between (low + low') (high + high')) (+ℤ_comm (negsuc m) (pos n))
    (wider (low + low') (high + high') (pos n +ℤ negsuc m) (omega arith) (omega arith) (of_sum high' low high (negsuc m) k h))
of_add low low' high high' (negsuc m) (negsuc n) h k = omega arith

pub of_product : (low high m : ℕ) (z : ℤ) → Between low high z → Between (low * m) (high * m) (z *ℤ pos m)
of_product low high m (pos n) h = mul-le-mul h (le_refl m)
of_product low high m (negsuc n) h = of_neg (low * m) (high * m) (suc n * m) (mul-le-mul h (le_refl m))

pub div_le : (a b d : ℕ) → 0 < d → a ≤ b → a / d ≤ b / d
div_le a b d some h = (le-div_iff_mul-le {k = d} {x = a / d} {y = b} some).1 (le_trans (div-mul-le_self a d) h)

pub of_quotient : (low high d : ℕ) (z : ℤ) → 0 < d → Between low high z → Between (low / d) (high / d) (z ÷ d)
of_quotient low high d (pos n) some h = div_le n high d some h
of_quotient low high d (negsuc n) some h = of_neg (low / d) (high / d) (suc n / d) (div_le (suc n) low d some h)

-- a signed byte, whose `mag` is n for n and for -(n + 1)
pub of_byte : (z : ℤ) → mag z < 128 → Between 128 127 z
of_byte (pos n) h = omega arith
of_byte (negsuc n) h = omega arith

-- as an order
pub in_order : (low high : ℕ) (z : ℤ) → Between low high z → (neg_ℤ (pos low) ≤ℤ z) × (z ≤ℤ pos high)
in_order zero high (pos n) h = (le_z_yes (le→leb 0 n (omega arith)), le_z_yes (le→leb n high h))
in_order (suc low) high (pos n) h = (le_z_yes tt, le_z_yes (le→leb n high h))
in_order zero high (negsuc n) h = absurd (omega arith)
in_order (suc low) high (negsuc n) h = (le_z_yes (le→leb n low (omega arith)), le_z_yes tt)

-- and as what an `i32` holds
pub held : (low high : ℕ) (z : ℤ) → low ≤ 2147483648 → high < 2147483648 → Between low high z → mag z < 2147483648
held low high (pos n) l h b = omega arith
held low high (negsuc n) l h b = omega arith
