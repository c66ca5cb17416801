-- The check bytes that are published: of no byte, of 01, and of the text 123456789.
-- Assumes nothing.
use mathlib.Core.Path.{◌≡◌, refl}
use mathlib.Core.List.{List, [], ◌∷◌, map}
use Prim.Native.Nat.{ℕ}
use Rattle.check_byte.specs.CheckByte.{divisor, coefficient, line, divide, number, check_byte}

abbrev digits : List ℕ
digits = 0x31 ∷ 0x32 ∷ 0x33 ∷ 0x34 ∷ 0x35 ∷ 0x36 ∷ 0x37 ∷ 0x38 ∷ 0x39 ∷ []

pub vectors : map check_byte ([] ∷ (0x01 ∷ []) ∷ digits ∷ []) ≡ 0x00 ∷ 0x07 ∷ 0xf4 ∷ []
unfolding check_byte number divide line coefficient divisor
vectors = refl
