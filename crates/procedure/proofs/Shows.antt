-- What an accepted call gave in the caller's list is the first cells of the record that it left.
-- Assumes nothing.
use mathlib.Core.Path.{◌≡◌, refl}
use Prim.Native.Nat.{ℕ}
use native.Mathlib.Omega.{arith}
use mathlib.Core.List.{List}
use lib.IntN.{ℤ}
use lib.ListN.{length}
use Rattle.refusals.specs.Refusal.{value}
use Rattle.bus.specs.Transfers.{Bus}
use Rattle.bus.specs.Programs.{Ran, on_tape}
use Rattle.bq769x0.specs.Figures.{first_cells}
use Rattle.bq769x0.specs.declared.BQ769x0.{BQ769x0}
use Rattle.laws.specs.Over.{◌over◌}
use Rattle.procedure.specs.Taking.{taking}
use Rattle.procedure.specs.Cells.{Filled, untouched, listed, read_cells, cell_voltages}
use Rattle.procedure.proofs.Reading.{by_call}

module _ (d : BQ769x0) (list : List ℤ) where
  abbrev pub Shows : Ran Filled → Type 0
  Shows x =
      x.answer.answer ≡ value tt
      → x.answer.list ≡ first_cells d.cell_count x.answer.device.readings.cells over list

  pub cells_shown : (b : Bus) → Shows (on_tape (cell_voltages d list) b)
  unfolding cell_voltages read_cells
  cells_shown b =
      by_call d (length list) (untouched d list) (λ inputs. listed (taking d inputs) list) b Shows
      (λ r b' e. absurd (let z : ◌≡◌ {A = ℕ} 0 1 = cc in omega arith))
      (λ sound bytes b' read e. refl)
