-- The casts are the machine's: each keeps its number modulo the target's 2^32, 2^16 or 2^8.
-- Assumes nothing.
use Rattle.std.proofs.Common.{◌≡◌, ℕ, suc, ◌-◌, ◌*◌, ◌^◌, ◌<◌, ◌≤◌, Bool, true, false, ltb, ℤ, pos, negsuc, sym, refl, ap, ◌∙◌, mod-eq_of_lt, arith, ltb-false, ltb-true}
use lib.Signed.{mag}
use Rattle.numbers.specs.Numbers.{◌%↓◌, as_i32, as_u32, twos}
use Rattle.numbers.proofs.Signed.{twos_low, twos_high, minus, below}

-- as u32, of a number in an `i32`
pub u32_cast : (z : ℤ) → mag z < 2 ^ 31 → as_u32 z ≡ z %↓ 2 ^ 32
u32_cast (pos n) h = sym (mod-eq_of_lt (omega arith))
u32_cast (negsuc n) h = ap (λ (r : ℕ). 2 ^ 32 - suc r) (sym (mod-eq_of_lt (omega arith)))

-- as i8, as i16 and as i32, at half 2^7, 2^15 and 2^31
pub twos_cast : (half n : ℕ) → n < 2 * half → twos half n %↓ (2 * half) ≡ n
twos_cast half n h = by_test (ltb n half) refl
  where
    by_test : (t : Bool) → ltb n half ≡ t → twos half n %↓ (2 * half) ≡ n
    by_test true e = rw (twos_low half n (ltb-true n half e)) (mod-eq_of_lt h)
    by_test false e =
        ap (λ (z : ℤ). z %↓ (2 * half)) (twos_high half n (ltb-false n half e) ∙ minus n (2 * half) ∙ below n (2 * half) h)
        ∙ ap (λ (r : ℕ). 2 * half - suc r) (mod-eq_of_lt (omega arith))
        ∙ omega arith

-- as u32 and as i32 undo each other
pub i32_of_u32 : (z : ℤ) → mag z < 2 ^ 31 → as_i32 (as_u32 z) ≡ z
i32_of_u32 (pos n) h = twos_low 2147483648 n (omega arith)
i32_of_u32 (negsuc n) h =
    let high : 2147483648 ≤ as_u32 (negsuc n) = omega arith in
    twos_high 2147483648 _ high
    ∙ minus (as_u32 (negsuc n)) 4294967296
    ∙ below (as_u32 (negsuc n)) 4294967296 (omega arith)
    ∙ ap negsuc (omega arith)

pub u32_of_i32 : (n : ℕ) → n < 2 ^ 32 → as_u32 (as_i32 n) ≡ n
u32_of_i32 n h = by_test (ltb n 2147483648) refl
  where
    by_test : (t : Bool) → ltb n 2147483648 ≡ t → as_u32 (as_i32 n) ≡ n
    by_test true e = ap as_u32 (twos_low 2147483648 n (ltb-true n _ e))
    by_test false e =
        ap as_u32 (twos_high 2147483648 n (ltb-false n _ e) ∙ minus n 4294967296 ∙ below n 4294967296 (omega arith))
        ∙ omega arith
