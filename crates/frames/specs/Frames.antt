-- What goes over the bus of the monitor after the address byte, as the datasheet has it, with check bytes and without.
use Rattle.std.specs.Prelude.{Bool, true, false, cond, ◌&&◌, List, [], ◌∷◌, ◌++◌, ℕ, ◌+◌, ◌*◌, ◌%◌, leb, eqb, length}
use Rattle.check_byte.specs.CheckByte.{check_byte}

-- the address byte: twice the address, which is 7 bits, and 1 more on a read
unfoldable pub write_byte : ℕ → ℕ
write_byte address = 2 * address % 256

unfoldable pub read_byte : ℕ → ℕ
read_byte address = (2 * address + 1) % 256

-- each data byte is followed by its check byte: the first one's covers what went before too, each later one's its data byte alone
unfoldable pub checked : List ℕ → List ℕ → List ℕ
checked before [] = []
checked before (x ∷ bytes) = x ∷ check_byte (before ++ x ∷ []) ∷ checked [] bytes

-- the test of a frame: each data byte has its check byte, and that is the right one
unfoldable pub right : List ℕ → List ℕ → Bool
right before [] = true
right before (x ∷ []) = false
right before (x ∷ c ∷ rest) = eqb c (check_byte (before ++ x ∷ [])) && right [] rest

-- the data bytes of a frame: every other byte, from the first; a last byte with no check byte counts too
unfoldable pub data_of : List ℕ → List ℕ
data_of [] = []
data_of (x ∷ []) = x ∷ []
data_of (x ∷ c ∷ rest) = x ∷ data_of rest

-- data as it goes over the bus, with check bytes or alone
unfoldable pub framed : Bool → List ℕ → List ℕ → List ℕ
framed true before bytes = checked before bytes
framed false before bytes = bytes

-- a write: the register, and then the data; the first check byte covers the address byte and the register too
unfoldable pub write_frame : Bool → ℕ → ℕ → List ℕ → List ℕ
write_frame check address reg bytes = reg ∷ framed check (write_byte address ∷ reg ∷ []) bytes

-- a read: the data; the first check byte covers the address byte too
unfoldable pub read_frame : Bool → ℕ → List ℕ → List ℕ
read_frame check address bytes = framed check (read_byte address ∷ []) bytes

-- the frame of a write of up to eight bytes, and nothing for data of more
unfoldable pub written_frame : Bool → ℕ → ℕ → List ℕ → List ℕ
written_frame check address reg bytes = cond (leb (length bytes) 8) (write_frame check address reg bytes) []
