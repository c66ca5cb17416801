-- Room for so many cells, as two bounds; and where there is room for the first of fifteen cells, these are stored as a list of their own.
-- Assumes nothing.
use mathlib.Core.Path.{◌≡◌, ap, ◌∙◌}
use mathlib.Core.Bool.{Bool, true, and-eq-true_iff}
use mathlib.Core.List.{List}
use Prim.Native.Nat.{ℕ, ◌*◌, ◌≤◌}
use native.Mathlib.Omega.{arith}
use lib.Dec.{leb}
use lib.IntN.{ℤ}
use lib.ListN.{length, take}
use lib.Seq.{take-length, length-take-le}
use borrow.Author.Tests.{leb-true}
use Rattle.laws.specs.Choice.{when◌then◌else◌}
use Rattle.frames.specs.Put.{put}
use Rattle.layout.specs.Cells.{cell_bytes, has_room, stored, stored_in}

pub has_room_is : (n bytes : ℕ) → has_room n bytes ≡ true → (4 * n ≤ bytes) × (n ≤ 15)
has_room_is n bytes e =
    let h = (and-eq-true_iff (leb (4 * n) bytes) (leb n 15)).0 e in
    (leb-true (4 * n) bytes h.0, leb-true n 15 h.1)

pub stored_first : (n : ℕ) (cells : List ℤ) (list : List ℕ) → length cells ≡ 15 → has_room n (length list) ≡ true
    → stored_in (length (take n cells)) (take n cells) list ≡ stored n cells list
stored_first n cells list all room =
    let size = length-take-le n cells (omega (arith, all, (has_room_is n (length list) room).1)) in
    let first = take n cells in
    ap (λ (b : Bool). when b then stored (length first) first list else list) (ap (λ (k : ℕ). has_room k (length list)) size ∙ room)
    ∙ ap (λ (l : List ℤ). put list 0 (cell_bytes l)) (take-length first)
