-- A list with others in place of its first elements.
-- Assumes nothing.
use Rattle.std.specs.Prelude.{List, ◌++◌, length, drop}

-- l with v in place of its first elements
infixl 6 ◌over◌
abbrev pub ◌over◌ : {A : Type 0} → List A → List A → List A
v over l = v ++ drop (length v) l
