-- A frame with check bytes: what is made of data is right and carries that data, and a right frame is what is made of the data it carries.
-- Assumes nothing.
use mathlib.Core.Path.{◌≡◌, refl, ap, ap₂, ◌∙◌}
use mathlib.Core.Bool.{true, false≢true, ◌&&◌, and-eq-true_iff}
use mathlib.Core.List.{List, [], ◌∷◌, ◌++◌}
use Prim.Native.Nat.{ℕ, ◌+◌, ◌*◌, ◌%◌}
use native.Mathlib.Omega.{arith}
use lib.Dec.{eqb}
use lib.ListN.{length}
use borrow.Author.Tests.{eq-eqb, eqb-true}
use Rattle.laws.proofs.Inverse.{one_to_one}
use Rattle.check_byte.specs.CheckByte.{check_byte, Bytes}
use Rattle.check_byte.proofs.Message.{bound}
use Rattle.frames.specs.Frames.{checked, right, data_of}

pub length_checked : (before bytes : List ℕ) → length (checked before bytes) ≡ 2 * length bytes
unfolding checked
length_checked before [] = refl
length_checked before (x ∷ bytes) = omega (arith, length_checked [] bytes)

pub right_checked : (before bytes : List ℕ) → right before (checked before bytes) ≡ true
unfolding checked right
right_checked before [] = refl
right_checked before (x ∷ bytes) =
    let c = check_byte (before ++ x ∷ []) in
    ap₂ ◌&&◌ (eq-eqb c c refl) (right_checked [] bytes)

pub data_checked : (before bytes : List ℕ) → data_of (checked before bytes) ≡ bytes
unfolding checked data_of
data_checked before [] = refl
data_checked before (x ∷ bytes) = ap (◌∷◌ x) (data_checked [] bytes)

-- so the frame says which data it is of
pub same_data : (before a b : List ℕ) → checked before a ≡ checked before b → a ≡ b
same_data before = one_to_one (checked before) data_of (data_checked before)

-- a right frame is the frame of what it carries, and of nothing else
pub checked_data : (before frame : List ℕ) → right before frame ≡ true → frame ≡ checked before (data_of frame)
unfolding checked right data_of
checked_data before [] e = refl
checked_data before (x ∷ []) e = absurd (false≢true e)
checked_data before (x ∷ c ∷ rest) e =
    let h = (and-eq-true_iff (eqb c (check_byte (before ++ x ∷ []))) (right [] rest)).0 e in
    ap₂ (λ (k : ℕ) (l : List ℕ). x ∷ k ∷ l) (eqb-true _ _ h.0) (checked_data [] rest h.1)

pub length_right : (before frame : List ℕ) → right before frame ≡ true → length frame ≡ 2 * length (data_of frame)
length_right before frame e = ap length (checked_data before frame e) ∙ length_checked before (data_of frame)

-- half as many, of an odd number the greater half
pub length_data : (frame : List ℕ) → 2 * length (data_of frame) ≡ length frame + length frame % 2
unfolding data_of
length_data [] = refl
length_data (x ∷ []) = refl
length_data (x ∷ c ∷ rest) = omega (arith, length_data rest)

bytes_append : (a b : List ℕ) → Bytes a → Bytes b → Bytes (a ++ b)
bytes_append [] b h k = k
bytes_append (x ∷ a) b h k = (h.0, bytes_append a b h.1 k)

-- of bytes, bytes
pub bytes_checked : (before bytes : List ℕ) → Bytes before → Bytes bytes → Bytes (checked before bytes)
unfolding checked
bytes_checked before [] b h = tt
bytes_checked before (x ∷ bytes) b h =
    (h.0, (bound (before ++ x ∷ []) (bytes_append before (x ∷ []) b (h.0, tt)), bytes_checked [] bytes tt h.1))
