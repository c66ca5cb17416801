-- Two bytes written to register 5 of the chip at 0x08, and read from there, with check bytes.
-- Assumes nothing.
use mathlib.Core.Path.{◌≡◌, refl}
use mathlib.Core.Bool.{true}
use mathlib.Core.List.{[], ◌∷◌}
use Rattle.check_byte.specs.CheckByte.{divisor, coefficient, line, divide, number, check_byte}
use Rattle.frames.specs.Frames.{write_byte, read_byte, checked, framed, write_frame, read_frame}

pub write_example : write_frame true 0x08 0x05 (0xc0 ∷ 0x3f ∷ []) ≡ 0x05 ∷ 0xc0 ∷ 0xad ∷ 0x3f ∷ 0xbd ∷ []
unfolding write_frame framed checked write_byte check_byte number divide line coefficient divisor
write_example = refl

pub read_example : read_frame true 0x08 (0xc0 ∷ 0x3f ∷ []) ≡ 0xc0 ∷ 0x0c ∷ 0x3f ∷ 0xbd ∷ []
unfolding read_frame framed checked read_byte check_byte number divide line coefficient divisor
read_example = refl
