-- Laws of the exclusive or: it is associative, and goes through a product with a power of two, and of bits with any number.
-- Assumes nothing.
use mathlib.Core.Path.{◌≡◌, refl, sym, ap, ap₂, ◌∙◌}
use Prim.Native.Nat.{ℕ, zero, suc, ◌+◌, ◌*◌, ◌/◌, ◌%◌, ◌^◌, ◌<◌}
use native.Mathlib.Nat.{add-zero, zero-mul, zero-lt-suc, mod-lt}
use native.Mathlib.Omega.{arith}
use lib.Arith.{bin_ind, digits_mod}
use lib.Pow.{pow_pos}
use lib.Bits.{bit_xor, differ, xor_step, xor_shr, xor_comm, xor_self, xor_zero_r, xor_block}

two_pos : 0 < 2
two_pos = zero-lt-suc 1

-- what holds of 0 and of 1 holds of a bit
pub by_bit : (P : ℕ → Type 0) → P 0 → P 1 → (x : ℕ) → x < 2 → P x
by_bit P none one zero h = none
by_bit P none one (suc zero) h = one
by_bit P none one (suc (suc x)) h = absurd (omega arith)

differ_lt : (x y : ℕ) → x < 2 → y < 2 → differ x y < 2
differ_lt x y hx hy =
    by_bit (λ (u : ℕ). differ u y < 2) hy (by_bit (λ (v : ℕ). differ 1 v < 2) (omega arith) (omega arith) y hy) x hx

differ_assoc : (x y z : ℕ) → x < 2 → y < 2 → z < 2 → differ (differ x y) z ≡ differ x (differ y z)
differ_assoc x y z hx hy hz =
    by_bit (λ (u : ℕ). differ (differ u y) z ≡ differ u (differ y z)) refl
    (by_bit (λ (v : ℕ). differ (differ 1 v) z ≡ differ 1 (differ v z)) refl
    (by_bit (λ (w : ℕ). w ≡ differ 1 (differ 1 w)) refl refl z hz) y hy) x hx

bit_lt : (n : ℕ) → n % 2 < 2
bit_lt n = mod-lt n two_pos

xor_half : (a b : ℕ) → bit_xor a b / 2 ≡ bit_xor (a / 2) (b / 2)
xor_half a b = xor_shr a b 1

xor_odd : (a b : ℕ) → bit_xor a b % 2 ≡ differ (a % 2) (b % 2)
xor_odd a b =
    ap (λ (x : ℕ). x % 2) (xor_step a b)
    ∙ digits_mod (bit_xor (a / 2) (b / 2)) (differ_lt (a % 2) (b % 2) (bit_lt a) (bit_lt b))

pub xor_assoc : (a b c : ℕ) → bit_xor (bit_xor a b) c ≡ bit_xor a (bit_xor b c)
xor_assoc a =
    bin_ind (λ (n : ℕ). (b c : ℕ) → bit_xor (bit_xor n b) c ≡ bit_xor n (bit_xor b c)) (λ b c. refl)
    (λ n ih b c.
    xor_step (bit_xor n b) c
    ∙ ap₂ (λ (x y : ℕ). bit_xor x (c / 2) * 2 + differ y (c % 2)) (xor_half n b) (xor_odd n b)
    ∙ ap₂ (λ (x y : ℕ). x * 2 + y) (ih (b / 2) (c / 2)) (differ_assoc (n % 2) (b % 2) (c % 2) (bit_lt n) (bit_lt b) (bit_lt c))
    ∙ sym (ap₂ (λ (x y : ℕ). bit_xor (n / 2) x * 2 + differ (n % 2) y) (xor_half b c) (xor_odd b c))
    ∙ sym (xor_step n (bit_xor b c))) a

pub xor_cancel : (a b : ℕ) → bit_xor a (bit_xor a b) ≡ b
xor_cancel a b = sym (xor_assoc a a b) ∙ ap (λ (x : ℕ). bit_xor x b) (xor_self a)

pub xor_undo : (a b : ℕ) → bit_xor (bit_xor a b) b ≡ a
xor_undo a b = xor_assoc a b b ∙ ap (bit_xor a) (xor_self b) ∙ xor_zero_r a

pub xor_swap : (a b c d : ℕ) → bit_xor (bit_xor a b) (bit_xor c d) ≡ bit_xor (bit_xor a c) (bit_xor b d)
xor_swap a b c d =
    xor_assoc a b (bit_xor c d)
    ∙ ap (bit_xor a) (sym (xor_assoc b c d) ∙ ap (λ (x : ℕ). bit_xor x d) (xor_comm b c) ∙ xor_assoc c b d)
    ∙ sym (xor_assoc a c (bit_xor b d))

-- numbers that differ nowhere are one
pub xor_zero : (a b : ℕ) → bit_xor a b ≡ 0 → a ≡ b
xor_zero a b e = sym (ap (bit_xor a) e ∙ xor_zero_r a) ∙ xor_cancel a b

pub xor_shift : (k a b : ℕ) → bit_xor (a * 2 ^ k) (b * 2 ^ k) ≡ bit_xor a b * 2 ^ k
xor_shift k a b =
    sym (ap₂ bit_xor (add-zero (a * 2 ^ k)) (add-zero (b * 2 ^ k)))
    ∙ xor_block k a b 0 0 (pow_pos k) (pow_pos k)
    ∙ add-zero (bit_xor a b * 2 ^ k)

pub bit_times : (x y n : ℕ) → x < 2 → y < 2 → bit_xor x y * n ≡ bit_xor (x * n) (y * n)
bit_times x y n hx hy =
    by_bit (λ (u : ℕ). bit_xor u y * n ≡ bit_xor (u * n) (y * n)) (sym (ap (λ (m : ℕ). bit_xor m (y * n)) (zero-mul n)))
    (by_bit (λ (v : ℕ). bit_xor 1 v * n ≡ bit_xor (1 * n) (v * n)) (sym (ap (bit_xor (1 * n)) (zero-mul n) ∙ xor_zero_r (1 * n)))
    (zero-mul n ∙ sym (xor_self (1 * n))) y hy) x hx
