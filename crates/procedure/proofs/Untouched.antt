-- A refused reading of the cells, by either list, leaves the record and the caller's lists as they were, whatever tape and log hold.
-- Assumes nothing.
use mathlib.Core.Path.{◌≡◌, refl}
use mathlib.Core.List.{List}
use Prim.Native.Nat.{ℕ, min}
use native.Mathlib.Omega.{arith}
use lib.IntN.{ℤ}
use lib.ListN.{length}
use Rattle.refusals.specs.Refusal.{Refusal, refused}
use Rattle.bus.specs.Transfers.{Bus}
use Rattle.bus.specs.Programs.{Ran, on_tape}
use Rattle.bq769x0.specs.declared.BQ769x0.{BQ769x0}
use Rattle.procedure.specs.Taking.{taking}
use Rattle.procedure.specs.Cells.{Filled, untouched, listed, read_cells, cell_voltages}
use Rattle.procedure.specs.Wired.{Shown, unshown, showing, read_wired, wired}
use Rattle.procedure.proofs.Reading.{by_call}

module _ (d : BQ769x0) (list : List ℤ) where
  abbrev pub Unfilled : Ran Filled → Type 0
  Unfilled x = (r : Refusal) → x.answer.answer ≡ refused r → (x.answer.device ≡ d) × (x.answer.list ≡ list)

  pub cells_unfilled : (b : Bus) → Unfilled (on_tape (cell_voltages d list) b)
  unfolding cell_voltages read_cells
  cells_unfilled b =
      by_call d (length list) (untouched d list) (λ inputs. listed (taking d inputs) list) b Unfilled
      (λ r b' s e. (refl, refl))
      (λ sound bytes b' read s e. absurd (let z : ◌≡◌ {A = ℕ} 0 1 = cc in omega arith))

module _ (d : BQ769x0) (inputs : List ℕ) (list : List ℤ) where
  abbrev pub Unshown : Ran Shown → Type 0
  Unshown x =
      (r : Refusal) → x.answer.answer ≡ refused r
      → (x.answer.device ≡ d) × (x.answer.inputs ≡ inputs) × (x.answer.list ≡ list)

  pub wired_unshown : (b : Bus) → Unshown (on_tape (wired d inputs list) b)
  unfolding wired read_wired
  wired_unshown b =
      by_call d (min (length inputs) (length list)) (unshown d inputs list) (showing d inputs list) b Unshown
      (λ r b' s e. (refl, refl, refl))
      (λ sound bytes b' read s e. absurd (let z : ◌≡◌ {A = ℕ} 0 1 = cc in omega arith))
