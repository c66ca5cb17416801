-- Numbers as bytes, high byte first: number and bytes give each other back, four at a time and eight. And the numbers that bytes hold, each by its place.
-- Assumes nothing.
use Rattle.std.proofs.Common.{◌≡◌, ℕ, zero, suc, ◌+◌, ◌*◌, ◌/◌, ◌%◌, ◌<◌, List, [], ◌∷◌, ◌++◌, length, get_or, sym, refl, ◌∙◌, arith, get_or-append-add}
use Rattle.numbers.specs.Numbers.{word4, word8, four, eight, numbers_in}

pub word4_four : (n : ℕ) → word4 (n / 16777216) (n / 65536 % 256) (n / 256 % 256) (n % 256) ≡ n
word4_four n = omega arith

pub four_word4 : (a b c d : ℕ) → b < 256 → c < 256 → d < 256 → four (word4 a b c d) ≡ a ∷ b ∷ c ∷ d ∷ []
unfolding four
four_word4 a b c d hb hc hd =
    let n = word4 a b c d in
    let ea : n / 16777216 ≡ a = omega arith in
    let eb : n / 65536 % 256 ≡ b = omega arith in
    let ec : n / 256 % 256 ≡ c = omega arith in
    let ed : n % 256 ≡ d = omega arith in
    rw (ea, eb, ec, ed)

pub word8_eight : (n : ℕ) → word8 (n / 4294967296) (n % 4294967296) ≡ n
word8_eight n = omega arith

pub eight_word8 : (high low : ℕ) → low < 4294967296 → eight (word8 high low) ≡ four high ++ four low
unfolding eight
eight_word8 high low h =
    let upper : word8 high low / 4294967296 ≡ high = omega arith in
    let lower : word8 high low % 4294967296 ≡ low = omega arith in
    rw (upper, lower)

-- ---- a list of them
pub length_numbers : (bytes : List ℕ) → length (numbers_in bytes) ≡ length bytes / 4
unfolding numbers_in
length_numbers [] = refl
length_numbers (a ∷ []) = refl
length_numbers (a ∷ b ∷ []) = refl
length_numbers (a ∷ b ∷ c ∷ []) = refl
length_numbers (a ∷ b ∷ c ∷ d ∷ bytes) = omega (arith, length_numbers bytes)

abbrev pub number_by : List ℕ → ℕ → ℕ
number_by bytes at = word4 (get_or bytes at 0) (get_or bytes (at + 1) 0) (get_or bytes (at + 2) 0) (get_or bytes (at + 3) 0)

pub number_at : (bytes : List ℕ) (k : ℕ) → 4 * k + 3 < length bytes → get_or (numbers_in bytes) k 0 ≡ number_by bytes (4 * k)
unfolding numbers_in
number_at [] k h = absurd (omega arith)
number_at (a ∷ []) k h = absurd (omega arith)
number_at (a ∷ b ∷ []) k h = absurd (omega arith)
number_at (a ∷ b ∷ c ∷ []) k h = absurd (omega arith)
number_at (a ∷ b ∷ c ∷ d ∷ bytes) zero h = refl
number_at (a ∷ b ∷ c ∷ d ∷ bytes) (suc k) h =
    let past : (i j : ℕ) → i ≡ 4 + j → get_or (a ∷ b ∷ c ∷ d ∷ bytes) i 0 ≡ get_or bytes j 0 =
    λ i j e. rw e (get_or-append-add (a ∷ b ∷ c ∷ d ∷ []) bytes j 0) in
    number_at bytes k (omega arith)
    ∙ sym (rw (
      past (4 * suc k) (4 * k) (omega arith),
      past (4 * suc k + 1) (4 * k + 1) (omega arith),
      past (4 * suc k + 2) (4 * k + 2) (omega arith),
      past (4 * suc k + 3) (4 * k + 3) (omega arith),
    ))
