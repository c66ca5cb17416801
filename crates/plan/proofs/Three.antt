-- Three bytes ahead of others, each by its place.
-- Assumes nothing.
use Rattle.std.proofs.Common.{◌≡◌, ℕ, List, [], ◌∷◌, ◌++◌, length, slice_index_or, refl, arith}

pub three_first : (bytes rest : List ℕ) → length bytes ≡ 3
    → bytes ++ rest ≡ slice_index_or bytes 0 0 ∷ slice_index_or bytes 1 0 ∷ slice_index_or bytes 2 0 ∷ rest
three_first [] rest e = absurd (omega arith)
three_first (a ∷ []) rest e = absurd (omega arith)
three_first (a ∷ b ∷ []) rest e = absurd (omega arith)
three_first (a ∷ b ∷ c ∷ []) rest e = refl
three_first (a ∷ b ∷ c ∷ d ∷ bytes) rest e = absurd (omega arith)
