-- Numbers that take the place of others in a list.
use Rattle.std.specs.Prelude.{List, ◌++◌, ℕ, ◌+◌, length, take, drop}

-- l with v in place of what stood from index at
unfoldable pub put : List ℕ → ℕ → List ℕ → List ℕ
put l at v = take at l ++ v ++ drop (at + length v) l
