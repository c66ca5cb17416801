-- Whole numbers with a sign, as the datasheet's formulas have them, and the machine's forms of them, in two's complement and as bytes.
-- `pos n` is n, `negsuc n` is -(n + 1).
-- Assumes nothing.
use Rattle.std.specs.Prelude.{ℕ, suc, ◌+◌, ◌-◌, ◌*◌, ◌/◌, ◌%◌, ◌^◌, cond, List, [], ◌∷◌, ◌++◌, ℤ, pos, negsuc, ◌-ℤ◌, neg_ℤ, nat_lt}

-- z / d with the fraction dropped, toward zero: -7 ÷ 2 is -3
infixl 7 ◌÷◌
abbrev pub ◌÷◌ : ℤ → ℕ → ℤ
pos n ÷ d = pos (n / d)
negsuc n ÷ d = neg_ℤ (pos (suc n / d))

-- z / d rounded down: -7 ÷↓ 2 is -4
infixl 7 ◌÷↓◌
abbrev pub ◌÷↓◌ : ℤ → ℕ → ℤ
pos n ÷↓ d = pos (n / d)
negsuc n ÷↓ d = negsuc (n / d)

-- what is left of z over d where the quotient is rounded down, from 0 to d - 1: -7 %↓ 4 is 1
infixl 7 ◌%↓◌
abbrev pub ◌%↓◌ : ℤ → ℕ → ℕ
pos n %↓ d = n % d
negsuc n %↓ d = d - suc (n % d)

-- z as a u32: below zero it is 2^32 less its size
abbrev pub as_u32 : ℤ → ℕ
as_u32 (pos n) = n
as_u32 (negsuc n) = 2 ^ 32 - suc n

-- two's complement: n below half is itself, and from half on it is n less twice half
abbrev pub twos : ℕ → ℕ → ℤ
twos half n = cond (nat_lt n half) (pos n) (pos n -ℤ pos (2 * half))

abbrev pub as_i8 : ℕ → ℤ
as_i8 = twos 128

abbrev pub as_i16 : ℕ → ℤ
as_i16 = twos 32768

abbrev pub as_i32 : ℕ → ℤ
as_i32 = twos 2147483648

-- ---- bytes, the high one first: two, four and eight as a number, and a number below 2^32 or 2^64 as bytes
abbrev pub word : ℕ → ℕ → ℕ
word high low = high * 256 + low

abbrev pub word4 : ℕ → ℕ → ℕ → ℕ → ℕ
word4 a b c d = word a b * 65536 + word c d

-- by its upper and its lower four
abbrev pub word8 : ℕ → ℕ → ℕ
word8 high low = high * 4294967296 + low

unfoldable pub four : ℕ → List ℕ
four n = n / 16777216 ∷ n / 65536 % 256 ∷ n / 256 % 256 ∷ n % 256 ∷ []

unfoldable pub eight : ℕ → List ℕ
eight n = four (n / 4294967296) ++ four (n % 4294967296)

-- the numbers of four bytes each that bytes hold; up to three bytes behind them are not looked at
unfoldable pub numbers_in : List ℕ → List ℕ
numbers_in [] = []
numbers_in (a ∷ []) = []
numbers_in (a ∷ b ∷ []) = []
numbers_in (a ∷ b ∷ c ∷ []) = []
numbers_in (a ∷ b ∷ c ∷ d ∷ bytes) = word4 a b c d ∷ numbers_in bytes
