-- No lawful call's value is longer than a field can hold.
-- Assumes nothing.
use mathlib.Core.Path.{◌≡◌, refl}
use mathlib.Core.Bool.{Bool, true, false, false≢true, cond, ◌&&◌, and-eq-true_iff}
use mathlib.Core.List.{List, [], ◌∷◌}
use Prim.Native.Nat.{ℕ, ◌<◌, ◌≤◌}
use native.Mathlib.Omega.{arith}
use lib.ListN.{length}
use lib.Dec.{eqb, leb}
use borrow.Author.Tests.{eqb-true, leb-true}
use Rattle.std.specs.Prelude.{Option, None, Some}
use Rattle.job.specs.Jobs.{is_config}
use Rattle.calls.specs.Shapes.{shapes, shape_in, shape_of, below, reads, writes, fits, fits_any, lawful}
use Rattle.calls.specs.declared.Shape.{Shape}
use Rattle.calls.specs.declared.Shape.TheVariants as S

-- a count in the table is at most 3
abbrev few : Shape → Bool
few S.Empty = true
few (S.Bytes n) = leb n 3
few (S.Below bound) = true
few S.Config = true
few S.Read = true
few S.Write = true

abbrev all_few : List (ℕ × Shape) → Bool
all_few [] = true
all_few (row ∷ rows) = few row.1 && all_few rows

abbrev few_any : Option Shape → Bool
few_any None = true
few_any (Some shape) = few shape

few_if : (b : Bool) (s t : Option Shape) → few_any s ≡ true → few_any t ≡ true → few_any (cond b s t) ≡ true
few_if true s t here there = here
few_if false s t here there = there

few_in : (rows : List (ℕ × Shape)) (tag : ℕ) → all_few rows ≡ true → few_any (shape_in rows tag) ≡ true
few_in [] tag e = refl
few_in (row ∷ rows) tag e =
    let t = (and-eq-true_iff _ _).0 e in
    few_if (eqb tag row.0) (Some row.1) (shape_in rows tag) t.0 (few_in rows tag t.1)

by_shape : (shape : Shape) (v : List ℕ) → few shape ≡ true → fits shape v ≡ true → length v < 65536
unfolding below is_config reads writes
by_shape S.Empty v f e = let n : length v ≡ 0 = eqb-true _ _ e in omega arith
by_shape (S.Bytes n) v f e = let m : length v ≡ n = eqb-true _ _ e in omega (arith, leb-true n 3 f)
by_shape (S.Below bound) v f e = let n : length v ≡ 1 = eqb-true _ _ ((and-eq-true_iff _ _).0 e).0 in omega arith
by_shape S.Config v f e = let n : length v ≡ 24 = eqb-true _ _ ((and-eq-true_iff _ _).0 e).0 in omega arith
by_shape S.Read v f e = let n : length v ≡ 3 = eqb-true _ _ ((and-eq-true_iff _ _).0 e).0 in omega arith
by_shape S.Write v f e =
    let n : length v ≤ 65 = leb-true _ _ ((and-eq-true_iff (leb 1 (length v)) (leb (length v) 65)).0 e).1 in omega arith

by_any : (shape : Option Shape) (v : List ℕ) → few_any shape ≡ true → fits_any shape v ≡ true → length v < 65536
by_any None v f e = absurd (false≢true e)
by_any (Some shape) v f e = by_shape shape v f e

pub short : (tag : ℕ) (v : List ℕ) → lawful tag v ≡ true → length v < 65536
unfolding lawful shape_of
short tag v e = by_any (shape_in shapes tag) v (few_in shapes tag refl) e
