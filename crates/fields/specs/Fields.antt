-- Fields, of which jobs, tape and log are made: a tag byte, a two-byte length, high first, and a value.
-- Assumes nothing.
use Rattle.std.specs.Prelude.{ℕ, ◌/◌, ◌%◌, List, [], ◌∷◌, length, take, drop, leb}
use Rattle.std.proofs.Math.Option.{Option, none, some}
use Rattle.laws.specs.Choice.{when◌then◌else◌}
use Rattle.numbers.specs.Numbers.{word}

unfoldable pub field : ℕ → List ℕ → List ℕ
field tag value = tag ∷ length value / 256 % 256 ∷ length value % 256 ∷ value

pub record Field : Type 0 where
  pub tag : ℕ
  pub value : List ℕ
  pub rest : List ℕ

-- the field at the head of bytes, and what follows it; none where the bytes end before it does
unfoldable pub unfield : List ℕ → Option Field
unfield [] = none
unfield (tag ∷ []) = none
unfield (tag ∷ high ∷ []) = none
unfield (tag ∷ high ∷ low ∷ bytes) =
    when leb (word high low) (length bytes)
    then some (record { tag = tag; value = take (word high low) bytes; rest = drop (word high low) bytes })
    else none
