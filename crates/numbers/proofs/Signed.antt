-- Laws of signed arithmetic. A number's size, `nat_abs z`, is a ℕ, which `omega` reads: a proof bounds the size of each intermediate number,
-- `sized` says that it fits, and `search` with the ruleset `signed` and those facts reads it back as it is.
-- Assumes nothing.
use Rattle.std.proofs.Common.{◌≡◌, ℕ, zero, suc, ◌+◌, ◌-◌, ◌*◌, ◌/◌, ◌^◌, ◌<◌, ◌≤◌, Bool, true, false, cond, T, ltb, leb, ℤ, pos, negsuc, ◌+ℤ◌, ◌-ℤ◌, ◌*ℤ◌, neg_ℤ, nat_abs, sym, refl, ap, ◌∙◌, subst, true≢false, le_refl, lt_of_lt_of_le, lt_of_le_of_lt, mod-lt, mul-le-mul, arith, leb→le, pow_mono, to_z-of_z, w8, w16, w32, w64, Fits, SFits, to_z, of_z, rules, ltb-false, ltb-true, le-ltb, lt-ltb}
use lib.IntN.{sub_ℕ}
use lib.Signed.{mag, lt_z, quot_z}
use mir.Syntax.{Width}
use mir.Facts.{sfits_widen, to_z_pos}
use mir.Val.{bits, hbits}
use Rattle.numbers.specs.Numbers.{◌÷◌, ◌%↓◌, twos}

-- ---- sizes
pub size_neg : (n : ℕ) → nat_abs (neg_ℤ (pos n)) ≡ n
size_neg zero = refl
size_neg (suc n) = refl

size_cond : (t : Bool) (a b : ℕ) → nat_abs (cond t (negsuc (b - suc a)) (pos (a - b))) ≤ a + suc b
size_cond true a b = omega arith
size_cond false a b = omega arith

pub size_mul : (x y : ℤ) → nat_abs (x *ℤ y) ≡ nat_abs x * nat_abs y
size_mul (pos a) (pos b) = refl
size_mul (pos a) (negsuc b) = size_neg (a * suc b)
size_mul (negsuc a) (pos b) = size_neg (suc a * b)
size_mul (negsuc a) (negsuc b) = refl

pub size_add : (x y : ℤ) → nat_abs (x +ℤ y) ≤ nat_abs x + nat_abs y + 1
size_add (pos a) (pos b) = omega arith
size_add (pos a) (negsuc b) = omega (arith, size_cond (ltb a (suc b)) a (suc b))
size_add (negsuc a) (pos b) = omega (arith, size_cond (ltb b (suc a)) b (suc a))
size_add (negsuc a) (negsuc b) = omega arith

pub size_sub : (x y : ℤ) → nat_abs (x -ℤ y) ≤ nat_abs x + nat_abs y + 1
size_sub x (pos n) = omega (arith, size_add x (neg_ℤ (pos n)), size_neg n)
size_sub x (negsuc n) = omega (arith, size_add x (pos (suc n)))

pub size_div : (z : ℤ) (d : ℕ) → nat_abs (z ÷ d) ≡ nat_abs z / d
size_div (pos n) d = refl
size_div (negsuc n) d = size_neg (suc n / d)

-- a remainder is below the divisor
pub rest< : (z : ℤ) (d : ℕ) → 0 < d → (z %↓ d) < d
rest< (pos n) d h = mod-lt n h
rest< (negsuc n) d h = omega arith

pub quot_div : (z : ℤ) (d : ℕ) → quot_z z (pos d) ≡ z ÷ d
quot_div (pos n) d = refl
quot_div (negsuc n) d = refl

-- ---- a number of small size fits
mag_size : (z : ℤ) → mag z ≤ nat_abs z
mag_size (pos n) = le_refl n
mag_size (negsuc n) = omega arith

pub sized : {w : Width} {z : ℤ} → nat_abs z < 2 ^ hbits w → SFits w z
sized {w} {z} h = record { sfits = lt_of_le_of_lt (mag_size z) h }

-- a call's result, whose range is in its `.ok`, is read back as it is
pub read_back : (w : Width) (z : ℤ) → mag z < 2 ^ hbits w → to_z w (of_z w z) ≡ z
read_back w z h = to_z-of_z (record { sfits = h })

-- a product is at most the product of the bounds, which are written out
pub product≤ : (m n : ℕ) {a b : ℕ} → a ≤ m → b ≤ n → a * b ≤ m * n
product≤ m n h k = mul-le-mul h k

-- ---- an unsigned number cast to a wider signed type is read as itself
pub read_wider : {v : Width} (w : Width) {n : ℕ} → T (leb (bits v) (hbits w)) → Fits v n → to_z w n ≡ pos n
read_wider {v} w wider fits = to_z_pos w (lt_of_lt_of_le fits.fits (pow_mono (leb→le (bits v) (hbits w) wider)))

-- ---- a difference of two naturals
pub below : (a b : ℕ) → a < b → sub_ℕ a b ≡ negsuc (b - suc a)
below a b h = simp (lt-ltb a b h)

pub above : (a b : ℕ) → b ≤ a → sub_ℕ a b ≡ pos (a - b)
above a b h = simp (le-ltb a b h)

pub minus : (a b : ℕ) → pos a -ℤ pos b ≡ sub_ℕ a b
minus a zero = ap pos (omega arith) ∙ sym (above a 0 (omega arith))
minus a (suc b) = refl

-- ---- two's complement
pub twos_low : (half n : ℕ) → n < half → twos half n ≡ pos n
twos_low half n h = simp (lt-ltb n half h)

pub twos_high : (half n : ℕ) → half ≤ n → twos half n ≡ pos n -ℤ pos (2 * half)
twos_high half n h = simp (le-ltb n half h)

-- a number below twice half is read as one of half's range
pub twos_fits : (w : Width) (half n : ℕ) → half ≡ 2 ^ hbits w → n < 2 * half → SFits w (twos half n)
twos_fits w half n whole h = by_test (ltb n half) refl
  where
    by_test : (t : Bool) → ltb n half ≡ t → SFits w (twos half n)
    by_test true e = subst (SFits w) (sym (twos_low half n (ltb-true n half e))) (record { sfits = omega (arith, whole, ltb-true n half e) })
    by_test false e =
        let least : half ≤ n = ltb-false n half e in
        subst (SFits w) (sym (twos_high half n least ∙ minus n (2 * half) ∙ below n (2 * half) h)) (record { sfits = omega (arith, whole) })

-- ---- what a test against zero says
none_below_zero : {X : Type 0} (n : ℕ) → ltb n 0 ≡ true → X
none_below_zero n e = absurd (none n (ltb-true n 0 e))
  where
    none : (n : ℕ) → n < 0 → ⊥
    none n h = omega arith

pub is_below : (z : ℤ) → lt_z z (pos 0) ≡ true → z ≡ negsuc (mag z)
is_below (pos n) e = none_below_zero n e
is_below (negsuc n) e = refl

pub is_natural : (z : ℤ) → lt_z z (pos 0) ≡ false → z ≡ pos (mag z)
is_natural (pos n) e = refl
is_natural (negsuc n) e = absurd (true≢false e)

-- -1 - z takes a number below zero to its size less one, and that back
pub less_one : (n : ℕ) → negsuc 0 -ℤ negsuc n ≡ pos n
less_one n = above (suc n) 1 (omega arith) ∙ ap pos (omega arith)

pub one_more : (n : ℕ) → negsuc 0 -ℤ pos n ≡ negsuc n
one_more zero = refl
one_more (suc n) = ap negsuc (omega arith)

-- ---- what `search` is handed at a need of a function over `i64`, with the function's own facts beside it
pub read8 : {n : ℕ} → Fits w8 n → to_z w64 n ≡ pos n
read8 = read_wider w64 tt

pub read16 : {n : ℕ} → Fits w16 n → to_z w64 n ≡ pos n
read16 = read_wider w64 tt

pub read32 : {n : ℕ} → Fits w32 n → to_z w64 n ≡ pos n
read32 = read_wider w64 tt

pub ruleset signed = (rules, sfits_widen, quot_div, read8, read16, read32)
