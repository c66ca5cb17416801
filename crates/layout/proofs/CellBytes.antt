-- Cells as bytes, four a cell: one more cell is four bytes more, and three are all of twelve.
-- Assumes nothing.
use mathlib.Core.Path.{◌≡◌, refl, sym, ap, ◌∙◌}
use mathlib.Core.List.{List, [], ◌∷◌, ◌++◌, append-nil, append_assoc}
use Prim.Native.Nat.{ℕ, suc, ◌+◌, ◌*◌, ◌≤◌, ◌<◌}
use native.Mathlib.Omega.{arith}
use lib.IntN.{ℤ}
use lib.ListN.{length, take, get_or}
use lib.Seq.{take-suc, length-take-le}
use Rattle.frames.specs.Put.{put}
use Rattle.frames.proofs.Put.{put_put, put_all}
use Rattle.numbers.specs.Numbers.{four, as_u32}
use Rattle.layout.specs.Cells.{cell_bytes, stored}

length_bytes : (mvs : List ℤ) → length (cell_bytes mvs) ≡ 4 * length mvs
unfolding four
length_bytes [] = refl
length_bytes (mv ∷ mvs) = let e = length_bytes mvs in omega arith

bytes_append : (a b : List ℤ) → cell_bytes (a ++ b) ≡ cell_bytes a ++ cell_bytes b
bytes_append [] b = refl
bytes_append (mv ∷ a) b =
    ap (λ (l : List ℕ). four (as_u32 mv) ++ l) (bytes_append a b)
    ∙ sym (append_assoc (four (as_u32 mv)) (cell_bytes a) (cell_bytes b))

-- the first i cells, and one more
length_before : (mvs : List ℤ) (i : ℕ) → i ≤ length mvs → length (cell_bytes (take i mvs)) ≡ 4 * i
length_before mvs i h = length_bytes (take i mvs) ∙ ap (λ (k : ℕ). 4 * k) (length-take-le i mvs h)

bytes_next : (mvs : List ℤ) (i : ℕ) (d : ℤ) → i < length mvs
    → cell_bytes (take (suc i) mvs) ≡ cell_bytes (take i mvs) ++ four (as_u32 (get_or mvs i d))
bytes_next mvs i d h =
    ap cell_bytes (take-suc mvs i d h)
    ∙ bytes_append (take i mvs) (get_or mvs i d ∷ [])
    ∙ ap (λ (l : List ℕ). cell_bytes (take i mvs) ++ l) (append-nil (four (as_u32 (get_or mvs i d))))

-- a cell's four bytes put after those of the cells before it
pub one_more : (list m : List ℕ) (mvs : List ℤ) (i : ℕ) (d : ℤ) → i < length mvs
    → 4 * i + 4 ≤ length list → m ≡ put (stored i mvs list) (4 * i) (four (as_u32 (get_or mvs i d)))
    → m ≡ stored (suc i) mvs list
one_more list m mvs i d h room e =
    let size = length_before mvs i (omega arith) in
    let fits : 0 + length (cell_bytes (take i mvs)) ≤ length list = rw size (omega arith) in
    let end : length (cell_bytes (take i mvs)) ≡ 0 + length (cell_bytes (take i mvs)) = omega arith in
    e
    ∙ ap (λ (k : ℕ). put (stored i mvs list) k (four (as_u32 (get_or mvs i d)))) (sym size ∙ end)
    ∙ put_put list 0 (cell_bytes (take i mvs)) fits (four (as_u32 (get_or mvs i d)))
    ∙ ap (λ (l : List ℕ). put list 0 l) (sym (bytes_next mvs i d h))

pub all_three : (l : List ℕ) → length l ≡ 12 → (x y z : ℤ) → put l 0 (cell_bytes (x ∷ y ∷ z ∷ [])) ≡ cell_bytes (x ∷ y ∷ z ∷ [])
all_three l size x y z =
    let all = length_bytes (x ∷ y ∷ z ∷ []) in
    put_all l (cell_bytes (x ∷ y ∷ z ∷ [])) (omega arith)
