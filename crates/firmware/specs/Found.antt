-- What C is given by a question that one byte answers: a number, and the byte that it lent, which a refusal leaves as it was.
-- Assumes nothing.
use Rattle.std.specs.Prelude.{ℕ, List, [], ◌∷◌}
use Rattle.refusals.specs.Refusal.{Answer, value, refused}

pub record Found : Type 0 where
  pub number : ℕ
  pub byte : List ℕ

abbrev pub found : ℕ → List ℕ → Found
found number byte = record { number = number; byte = byte }

abbrev pub found_for : Answer ℕ → List ℕ → Found
found_for (value n) lent = found 0 (n ∷ [])
found_for (refused r) lent = found r.number lent
