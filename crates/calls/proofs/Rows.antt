-- A table whose tags count up by one is read by place.
-- Assumes nothing.
use mathlib.Core.Path.{◌≡◌, refl, sym, ap, ◌∙◌}
use mathlib.Core.List.{List, [], ◌∷◌, map}
use Prim.Native.Nat.{ℕ, zero, suc, ◌+◌, ◌-◌, ◌≤◌, ◌<◌}
use native.Mathlib.Omega.{arith}
use borrow.Author.Tests.{eq-eqb, ne_eqb}
use Rattle.std.specs.Prelude.{None, slice_get}
use Rattle.calls.specs.Shapes.{shapes, shape_in, shape_of}
use Rattle.calls.specs.declared.Shape.{Shape}

abbrev counted : ℕ → List Shape → List (ℕ × Shape)
counted tag [] = []
counted tag (s ∷ rest) = (tag, s) ∷ counted (suc tag) rest

below_all : (tag first : ℕ) (l : List Shape) → tag < first → shape_in (counted first l) tag ≡ None
below_all tag first [] h = refl
below_all tag first (s ∷ l) h = rw (ne_eqb tag first (λ e. omega arith)) (below_all tag (suc first) l (omega arith))

by_place : (first k : ℕ) (l : List Shape) → shape_in (counted first l) (first + k) ≡ slice_get l k
by_place first zero [] = refl
by_place first (suc k) [] = refl
by_place first zero (s ∷ l) = rw (eq-eqb (first + 0) first (omega arith))
by_place first (suc k) (s ∷ l) =
    let next : first + suc k ≡ suc first + k = omega arith in
    rw (ne_eqb (first + suc k) first (λ e. omega arith), next) (by_place (suc first) k l)

abbrev pub in_turn : List Shape
in_turn = map (λ row. row.1) shapes

pub before : (tag : ℕ) → tag < 0x21 → shape_of tag ≡ None
unfolding shape_of
before tag h = below_all tag 0x21 in_turn h

pub from : (tag : ℕ) → 0x21 ≤ tag → shape_of tag ≡ slice_get in_turn (tag - 0x21)
unfolding shape_of
from tag h =
    let place : 0x21 + (tag - 0x21) ≡ tag = omega arith in
    ap (shape_in shapes) (sym place) ∙ by_place 0x21 (tag - 0x21) in_turn
