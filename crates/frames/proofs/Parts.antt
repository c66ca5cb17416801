-- A frame in parts, each of whole pairs: a part's tests and data, and then those of the rest.
-- Assumes nothing.
use mathlib.Core.Path.{◌≡◌, refl, sym, ap, ◌∙◌}
use mathlib.Core.Bool.{Bool, ◌&&◌, and_assoc}
use mathlib.Core.List.{List, [], ◌∷◌, ◌++◌}
use Prim.Native.Nat.{ℕ, zero, suc, ◌*◌, ◌%◌}
use native.Mathlib.Omega.{arith}
use lib.Dec.{eqb}
use lib.ListN.{length, take}
use lib.Seq.{take-nil}
use Rattle.check_byte.specs.CheckByte.{check_byte}
use Rattle.frames.specs.Frames.{right, data_of}

pub right_append : (l m : List ℕ) → length l % 2 ≡ 0 → right [] (l ++ m) ≡ (right [] l && right [] m)
unfolding right
right_append [] m h = refl
right_append (x ∷ []) m h = absurd (omega arith)
right_append (x ∷ c ∷ rest) m h =
    let first = eqb c (check_byte (x ∷ [])) in
    ap (λ (t : Bool). first && t) (right_append rest m (omega arith)) ∙ sym (and_assoc first (right [] rest) (right [] m))

pub data_append : (l m : List ℕ) → length l % 2 ≡ 0 → data_of (l ++ m) ≡ data_of l ++ data_of m
unfolding data_of
data_append [] m h = refl
data_append (x ∷ []) m h = absurd (omega arith)
data_append (x ∷ c ∷ rest) m h = ap (◌∷◌ x) (data_append rest m (omega arith))

-- the first n data bytes are those of the first n pairs
pub take_data : (n : ℕ) (l : List ℕ) → take n (data_of l) ≡ data_of (take (2 * n) l)
unfolding data_of
take_data zero l = refl
take_data (suc n) [] = ap data_of (sym (take-nil (2 * suc n)))
take_data (suc n) (x ∷ []) =
    let two : 2 * suc n ≡ suc (suc (2 * n)) = omega arith in
    rw (two, take-nil n, take-nil (suc (2 * n)))
take_data (suc n) (x ∷ c ∷ rest) =
    let two : 2 * suc n ≡ suc (suc (2 * n)) = omega arith in
    rw two (ap (◌∷◌ x) (take_data n rest))
