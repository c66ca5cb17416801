-- What the code's steps make of a reading is what the definition takes of it: the fitted inputs' millivolts, their figures, and after the moves the
-- crate's.
-- Assumes nothing.
use mathlib.Core.Path.{◌≡◌, refl, sym, ap, subst⁻¹, ◌∙◌}
use mathlib.Core.List.{List, map}
use Prim.Native.Nat.{ℕ, ◌-◌, ◌≤◌, ◌<◌}
use native.Mathlib.Omega.{arith}
use lib.Dec.{T, leb, leb→le}
use lib.IntN.{ℤ, pos, nat_abs}
use lib.ListN.{length, take, get_or, length-map, get_or-map}
use lib.Seq.{get_or-take, take_at}
use Rattle.units.specs.declared.MilliVolts.{MilliVolts}
use Rattle.sizes.specs.Sizes.{is_count}
use Rattle.sizes.proofs.Sizes.{at_most_15}
use Rattle.wiring.proofs.Packs.{of_pack_lem}
use Rattle.wiring.proofs.Rows.{as_many, row_within}
use Rattle.wiring.specs.Tables.{fitted}
use Rattle.laws.specs.Over.{◌over◌}
use Rattle.laws.proofs.Lists.{get_d_any}
use Rattle.moves.specs.Moves.{moves, in_turn}
use Rattle.bq769x0.specs.Figures.{first_cells, spread_of}
use Rattle.bq769x0.specs.declared.Readings.{Readings}
use Rattle.bq769x0.specs.declared.Spread.{Spread}
use Rattle.procedure.specs.Inputs.{as_cells}
use Rattle.procedure.specs.Taking.{of_input, voltages, taken}
use Rattle.procedure.proofs.Fitted.{of_fitted}
use Rattle.procedure.proofs.Moved as moves
use Rattle.cells.specs.Inside.{Small}

-- a pack has cells
pub some_cells : (x n : ℕ) → T (is_count x n) → 1 ≤ n
some_cells x n pack = leb→le 1 n (of_pack_lem (λ y m. leb 1 m) tt x n pack)

module _ (x n : ℕ) (pack : T (is_count x n)) where
  most : (x ≤ 15) × (n ≤ 15)
  most = at_most_15 x n pack

  -- ---- the inputs that carry the cells
  module _ {row : List ℕ} (rows : row ≡ fitted x n) where
    pub many : length row ≡ n
    many = ap length rows ∙ as_many x n pack

    pub on_device : (k : ℕ) → k < length row → (1 ≤ get_or row k 0) × (get_or row k 0 ≤ 15)
    on_device k h =
        let within = row_within x n pack k (rw many at h) in
        rw rows (within.0, omega (arith, within, most))

    pub volts_are : (inputs : List ℤ) → map (of_input inputs) row ≡ voltages x n (take x inputs)
    volts_are inputs =
        ap (map (of_input inputs)) rows
        ∙ of_fitted x n pack (of_input inputs) (of_input (take x inputs)) λ input low high.
        sym (get_or-take x inputs (input - 1) (pos 0) (omega arith))

  pub many_volts : (readings : List ℤ) → length (voltages x n readings) ≡ n
  many_volts readings = length-map (fitted x n) (of_input readings) ∙ as_many x n pack

  -- and they stand first in a list that they were put over
  pub first_volts : (readings list : List ℤ) → take n (voltages x n readings over list) ≡ voltages x n readings
  first_volts readings list = take_at (voltages x n readings) _ n (many_volts readings)

  -- ---- what is made of their millivolts
  module _ (held : Readings) (inputs : List ℤ) (wide : length inputs ≡ 16) (few : Small x inputs) (volts : List ℤ)
      (by_wiring : volts ≡ voltages x n (take x inputs)) where
    kth : (k : ℕ) → k < n → get_or volts k (pos 0) ≡ get_or inputs (get_or (fitted x n) k 0 - 1) (pos 0)
    kth k h =
        let readings = take x inputs in
        let row-k = row_within x n pack k h in
        ap (λ (l : List ℤ). get_or l k (pos 0)) by_wiring
        ∙ get_d_any (voltages x n readings) k (pos 0) (of_input readings 0) (rw (many_volts readings) h)
        ∙ get_or-map (of_input readings) (fitted x n) k 0
        ∙ get_or-take x inputs (get_or (fitted x n) k 0 - 1) (pos 0) (omega (arith, row-k))

    as_many_volts : length volts ≡ n
    as_many_volts = ap length by_wiring ∙ many_volts (take x inputs)

    pub add_up : (1 ≤ length volts) × (length volts ≤ 15) × Small (length volts) volts
    add_up = (
      omega (arith, some_cells x n pack, as_many_volts),
      omega (arith, as_many_volts, most),
      λ k h.
          let more = rw as_many_volts at h in
          let row-k = row_within x n pack k more in
          subst⁻¹ (λ (z : ℤ). nat_abs z ≤ 27000) (kth k more) (few (get_or (fitted x n) k 0 - 1) (omega (arith, row-k))),
    )

    -- ---- and with the inputs moved the crate's
    module _ {moved : List ℤ} (turned : moved ≡ in_turn (pos 0) (moves x n) inputs) where
      room : x ≤ length inputs
      room = omega (arith, most, wide)

      pub all : {cells wired : List MilliVolts} {spread : Spread} → cells ≡ as_cells (take x moved) over held.cells
          → wired ≡ as_cells volts over held.wired → spread ≡ spread_of volts
          → record { cells = cells; wired = wired; spread = spread } ≡ taken x n held (take x inputs)
      all kept stored figures =
          let cells_are = kept ∙ moves.stored x n pack held (take x inputs) inputs moved room refl turned in
          let wired_are = stored ∙ ap (λ (l : List ℤ). as_cells l over held.wired) by_wiring in
          let spread-is = figures ∙ ap spread_of by_wiring in
          λ i. record { cells = cells_are i; wired = wired_are i; spread = spread-is i }

      pub listed : take n moved ≡ first_cells n (taken x n held (take x inputs)).cells
      listed = moves.listed_first x n pack held (take x inputs) inputs moved room refl turned
