-- What the code leaves, by its promise: where it refuses, record and lists as they were; where `cell_voltages` accepts, the first cells of the
-- record in the list.
-- Assumes nothing.
use mathlib.Core.Path.{◌≡◌, sym, subst}
use mathlib.Core.List.{List}
use Prim.Native.Nat.{ℕ}
use lib.IntN.{ℤ}
use Rattle.std.specs.Prelude.{Result}
use Rattle.laws.specs.Over.{◌over◌}
use Rattle.refusals.specs.Refusal.{Refusal, value, refused}
use Rattle.refusals.specs.declared.Error.{Error}
use Rattle.bus.specs.Transfers.{Bus}
use Rattle.bus.specs.Programs.{ends, on_tape}
use Rattle.bus.specs.Raw.{Done, as_raw}
use Rattle.bq769x0.specs.declared.BQ769x0.{BQ769x0}
use Rattle.bq769x0.specs.Figures.{first_cells}
use Rattle.procedure.specs.Cells.{filled, cell_voltages}
use Rattle.procedure.specs.Wired.{shown, wired}
use Rattle.procedure.proofs.Shows.{Shows, cells_shown}
use Rattle.procedure.proofs.Untouched.{Unfilled, cells_unfilled, Unshown, wired_unshown}

module _ (d : BQ769x0) (before : List ℤ) (b : Bus) (r : Result Done Error) (left : BQ769x0) (list : List ℤ) (after : Bus)
    (e : ends (filled (as_raw r) left list) after ≡ on_tape (cell_voltages d before) b) where
  pub voltages_kept : (x : Refusal) → as_raw r ≡ refused x → (left ≡ d) × (list ≡ before)
  voltages_kept = subst (Unfilled d before) (sym e) (cells_unfilled d before b)

  pub voltages_listed : as_raw r ≡ value tt
      → list ≡ first_cells d.cell_count left.readings.cells over before
  voltages_listed = subst (Shows d before) (sym e) (cells_shown d before b)

module _ (d : BQ769x0) (inputs₀ : List ℕ) (list₀ : List ℤ) (b : Bus) (r : Result Done Error) (left : BQ769x0) (inputs : List ℕ) (list : List ℤ)
    (after : Bus) (e : ends (shown (as_raw r) left inputs list) after ≡ on_tape (wired d inputs₀ list₀) b) where
  pub wired_kept : (x : Refusal) → as_raw r ≡ refused x
      → (left ≡ d) × (inputs ≡ inputs₀) × (list ≡ list₀)
  wired_kept = subst (Unshown d inputs₀ list₀) (sym e) (wired_unshown d inputs₀ list₀ b)
