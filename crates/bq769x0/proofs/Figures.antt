-- The figures of a list that grows by one; and a record of which nothing is read fits.
-- Assumes nothing.
use mathlib.Core.Path.{◌≡◌, refl, sym, ap, ◌∙◌}
use mathlib.Core.List.{List, [], ◌∷◌, ◌++◌, map, foldl, foldl-append}
use Prim.Native.Nat.{ℕ, zero, suc, ◌≤◌, ◌<◌}
use native.Mathlib.Omega.{arith}
use lib.IntN.{ℤ, pos, ◌+ℤ◌}
use lib.ListN.{length, take, get_or, replicate, length-map, get_or-map}
use lib.Seq.{take-suc, length-take-le}
use Rattle.units.specs.declared.MilliVolts.{MilliVolts}
use Rattle.bq769x0.specs.Record.{nothing, unread, with_head}
use Rattle.bq769x0.specs.Figures.{volts, first_cells, lower, higher, all_by, Fits}
use Rattle.bq769x0.specs.declared.Head.{Head}

-- ---- one more
pub all_next : (two : ℤ → ℤ → ℤ) (l : List ℤ) (mv : ℤ) → 1 ≤ length l → all_by two (l ++ (mv ∷ [])) ≡ two (all_by two l) mv
all_next two [] mv some = absurd (omega arith)
all_next two (a ∷ l) mv some = foldl-append two a l (mv ∷ [])

-- of a record's cells
pub first_one : (two : ℤ → ℤ → ℤ) (cells : List MilliVolts) → 1 ≤ length cells
    → all_by two (first_cells 1 cells) ≡ volts (get_or cells 0 nothing)
first_one two [] some = absurd (omega arith)
first_one two (cell ∷ cells) some = refl

pub first_next : (two : ℤ → ℤ → ℤ) (cells : List MilliVolts) (i : ℕ) → 1 ≤ i → i < length cells
    → all_by two (first_cells (suc i) cells) ≡ two (all_by two (first_cells i cells)) (volts (get_or cells i nothing))
first_next two cells i some more =
    let mvs = map volts cells in
    let there : i < length mvs = omega (arith, length-map cells volts) in
    ap (all_by two) (take-suc mvs i (pos 0) there)
    ∙ all_next two (take i mvs) _ (omega (arith, length-take-le i mvs (omega arith)))
    ∙ ap (two (all_by two (take i mvs))) (get_or-map volts cells i nothing)

-- ---- nothing read
module _ (two : ℤ → ℤ → ℤ) (still : two (pos 0) (pos 0) ≡ pos 0) where
  behind : (n m : ℕ) → foldl two (pos 0) (take n (replicate m (pos 0))) ≡ pos 0
  behind zero m = refl
  behind (suc n) zero = refl
  behind (suc n) (suc m) = ap (λ (z : ℤ). foldl two z (take n (replicate m (pos 0)))) still ∙ behind n m

  of_zeros : (n m : ℕ) → all_by two (take n (replicate m (pos 0))) ≡ pos 0
  of_zeros zero m = refl
  of_zeros (suc n) zero = refl
  of_zeros (suc n) (suc m) = behind n m

pub unread_fits : (h : Head) → Fits (with_head h unread)
unread_fits h =
    let n = h.cell_count in
    let sum = of_zeros ◌+ℤ◌ refl n 15 in
    let lowest = of_zeros lower refl n 15 in
    let highest = of_zeros higher refl n 15 in
    λ i. record { sum = record { 0 = sym sum i }; lowest = record { 0 = sym lowest i }; highest = record { 0 = sym highest i } }
