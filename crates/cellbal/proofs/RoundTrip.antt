-- The registers: a set that the device has is read back from them as it was written; and what three bytes show, by their numbers.
-- Assumes nothing.
use mathlib.Core.Path.{◌≡◌, refl, sym, ap, ◌∙◌}
use mathlib.Core.Bool.{true, false}
use mathlib.Core.List.{List, [], ◌∷◌, ◌++◌}
use Prim.Native.Nat.{ℕ, zero, suc, ◌+◌, ◌*◌, ◌/◌, ◌%◌, ◌^◌, ◌≤◌, ◌<◌}
use native.Mathlib.Omega.{arith}
use lib.Dec.{eqb}
use lib.ListN.{length, drop, get_or, replicate}
use lib.Pow.{shr-shr}
use borrow.Author.Tests.{eqb-true, not-false}
use Rattle.sizes.specs.Sizes.{is_size}
use Rattle.sizes.proofs.Sizes.{by_size}
use Rattle.cellbal.specs.Rules.{not_on_device}
use Rattle.cellbal.specs.Registers.{registers_for, set_of}
use Rattle.cellbal.proofs.Shifted.{by_shift}

pub three_show : (bytes : List ℕ) → length bytes ≡ 3
    → get_or bytes 0 0 % 32 + 32 * (get_or bytes 1 0 % 32) + 1024 * (get_or bytes 2 0 % 32) ≡ set_of bytes
unfolding set_of
three_show [] e = absurd (omega arith)
three_show (a ∷ []) e = absurd (omega arith)
three_show (a ∷ b ∷ []) e = absurd (omega arith)
three_show (a ∷ b ∷ c ∷ []) e = omega arith
three_show (a ∷ b ∷ c ∷ d ∷ bytes) e = absurd (omega arith)

-- zeros behind bytes show nothing
none_show : (n k : ℕ) → set_of (drop n (replicate k 0)) ≡ 0
unfolding set_of
none_show zero zero = refl
none_show zero (suc k) = omega (arith, none_show zero k)
none_show (suc n) zero = refl
none_show (suc n) (suc k) = none_show n k

pub zeros_behind : (n k : ℕ) (bytes : List ℕ) → set_of (bytes ++ drop n (replicate k 0)) ≡ set_of bytes
unfolding set_of
zeros_behind n k [] = none_show n k
zeros_behind n k (byte ∷ bytes) = ap (λ (m : ℕ). byte % 32 + 32 * m) (zeros_behind n k bytes)

-- as many bits as the device has inputs
within : (x set : ℕ) → x ≤ 16 → set < 2 ^ 16 → not_on_device x set ≡ false → set / 2 ^ x ≡ 0
within x set few two e = eqb-true (set / 2 ^ x) 0 (not-false (eqb (set / 2 ^ x) 0) (by_shift x set two few ∙ e))

-- two registers, and the third over them
two_show : (n : ℕ) → n / 1024 ≡ 0 → n % 32 % 32 + 32 * (n / 32 % 32 % 32 + 32 * 0) ≡ n
two_show n e = omega arith

three_back : (n : ℕ) → n / 32768 ≡ 0 → n % 32 % 32 + 32 * (n / 32 % 32 % 32 + 32 * (n / 1024 % 32 % 32 + 32 * 0)) ≡ n
three_back n e =
    let third : n / 1024 ≡ n / 32 / 32 = sym (shr-shr n 5 5) in
    let upper = two_show (n / 32) (shr-shr n 5 10 ∙ e) in
    rw (third, upper) (omega arith)

pub back : (x set : ℕ) → is_size x ≡ true → set < 2 ^ 16 → not_on_device x set ≡ false → set_of (registers_for x set) ≡ set
unfolding set_of registers_for
back x set size two =
    by_size (λ y. not_on_device y set ≡ false → set_of (registers_for y set) ≡ set)
    (λ e. omega (arith, within 5 set (omega arith) two e))
    (λ e. two_show set (within 10 set (omega arith) two e))
    (λ e. three_back set (within 15 set (omega arith) two e))
    x size
